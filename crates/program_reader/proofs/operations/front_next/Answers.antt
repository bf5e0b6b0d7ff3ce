use Rattle.std.proofs.Common.{refl}
use Rattle.fast_lex.specs.Tokens.{lexeme}
use Rattle.label_reader.specs.Results.{behind}
use Rattle.program_reader.specs.declared.operations.Front.TheVariants.{Tree}
use Rattle.program_reader.proofs.Growing.{front_at, front_ended}
use Rattle.program_reader.proofs.NoOperations.{no_op1, no_op2}
use Rattle.program_reader.proofs.operations.front_next.Goals as goal

pub returns-in_default : goal.returns-in_default
returns-in_default c = front_ended (behind c.args.reader.now) c.in_default.ensures

pub returns-in-Complement : goal.returns-in-Complement
returns-in-Complement c = record { token = lexeme c.in-Some.token; here = c.in-Some.ensures; is = (c.in-Complement.is, refl) }

pub returns-in-Minimize : goal.returns-in-Minimize
returns-in-Minimize c = record { token = lexeme c.in-Some.token; here = c.in-Some.ensures; is = (c.in-Minimize.is, refl) }

pub returns-in-Domain : goal.returns-in-Domain
returns-in-Domain c = record { token = lexeme c.in-Some.token; here = c.in-Some.ensures; is = (c.in-Domain.is, refl) }

pub returns-in-GetWitness : goal.returns-in-GetWitness
returns-in-GetWitness c = record { token = lexeme c.in-Some.token; here = c.in-Some.ensures; is = (c.in-GetWitness.is, refl) }

pub returns-in-Intersect : goal.returns-in-Intersect
returns-in-Intersect c = record { token = lexeme c.in-Some.token; here = c.in-Some.ensures; is = (c.in-Intersect.is, refl) }

pub returns-in-Union : goal.returns-in-Union
returns-in-Union c = record { token = lexeme c.in-Some.token; here = c.in-Some.ensures; is = (c.in-Union.is, refl) }

pub returns-in-Difference : goal.returns-in-Difference
returns-in-Difference c = record { token = lexeme c.in-Some.token; here = c.in-Some.ensures; is = (c.in-Difference.is, refl) }

pub returns-in-PreImage : goal.returns-in-PreImage
returns-in-PreImage c = record { token = lexeme c.in-Some.token; here = c.in-Some.ensures; is = (c.in-PreImage.is, refl) }

pub returns-in-Compose : goal.returns-in-Compose
returns-in-Compose c = record { token = lexeme c.in-Some.token; here = c.in-Some.ensures; is = (c.in-Compose.is, refl) }

pub returns-in-Restrict : goal.returns-in-Restrict
returns-in-Restrict c = record { token = lexeme c.in-Some.token; here = c.in-Some.ensures; is = (c.in-Restrict.is, refl) }

pub returns-in-RestrictOut : goal.returns-in-RestrictOut
returns-in-RestrictOut c = record { token = lexeme c.in-Some.token; here = c.in-Some.ensures; is = (c.in-RestrictOut.is, refl) }

pub returns-in-Apply : goal.returns-in-Apply
returns-in-Apply c = record { token = lexeme c.in-Some.token; here = c.in-Some.ensures; is = (c.in-Apply.is, refl) }

pub returns-in_default-word : goal.returns-in_default-word
returns-in_default-word c =
    let d = c.in_default-word in
    front_at Tree _ c.in-Some.ensures (no_op1 _ d.not-Complement d.not-Minimize d.not-Domain d.not-GetWitness, no_op2 _ d.not-Intersect d.not-Union d.not-Difference d.not-PreImage d.not-Compose d.not-Restrict d.not-RestrictOut d.not-Apply)
