use Rattle.std.proofs.Common.{refl, sym, ap, inl}
use Rattle.model_grammar.specs.Operators.{is_marking}
use Rattle.fast_lex.specs.Tokens.{lexeme}
use Rattle.label_reader.specs.Results.{behind}
use Rattle.label_reader.proofs.Found.{found_other, found_none}
use Rattle.label_reader.proofs.NoOperators.{no_rel, no_many}
use Rattle.label_reader.proofs.operators.operator_next.Goals as goal

pub returns-in_default : goal.returns-in_default
returns-in_default c = found_none (behind c.args.reader.now) c.in_default.ensures

pub returns-in-Minus : goal.returns-in-Minus
returns-in-Minus c = record { token = lexeme c.in-Some.token; here = c.in-Some.ensures; is = (c.in-Minus.is, refl) }

pub returns-in-Percent : goal.returns-in-Percent
returns-in-Percent c = record { token = lexeme c.in-Some.token; here = c.in-Some.ensures; is = (c.in-Percent.is, refl) }

pub returns-in-Equal : goal.returns-in-Equal
returns-in-Equal c = record { token = lexeme c.in-Some.token; here = c.in-Some.ensures; is = (c.in-Equal.is, refl) }

pub returns-in-NotEqual : goal.returns-in-NotEqual
returns-in-NotEqual c = record { token = lexeme c.in-Some.token; here = c.in-Some.ensures; is = (c.in-NotEqual.is, refl) }

pub returns-in-Less : goal.returns-in-Less
returns-in-Less c = record { token = lexeme c.in-Some.token; here = c.in-Some.ensures; is = (c.in-Less.is, refl) }

pub returns-in-AtMost : goal.returns-in-AtMost
returns-in-AtMost c = record { token = lexeme c.in-Some.token; here = c.in-Some.ensures; is = (c.in-AtMost.is, refl) }

pub returns-in-Greater : goal.returns-in-Greater
returns-in-Greater c = record { token = lexeme c.in-Some.token; here = c.in-Some.ensures; is = (c.in-Greater.is, refl) }

pub returns-in-AtLeast : goal.returns-in-AtLeast
returns-in-AtLeast c = record { token = lexeme c.in-Some.token; here = c.in-Some.ensures; is = (c.in-AtLeast.is, refl) }

pub returns-in-Or : goal.returns-in-Or
returns-in-Or c = record { token = lexeme c.in-Some.token; here = c.in-Some.ensures; is = record { many = c.in-Or.is; marks = sym (ap is_marking c.in-Or.is); is_at = refl } }

pub returns-in-And : goal.returns-in-And
returns-in-And c = record { token = lexeme c.in-Some.token; here = c.in-Some.ensures; is = record { many = c.in-And.is; marks = sym (ap is_marking c.in-And.is); is_at = refl } }

pub returns-in-Plus : goal.returns-in-Plus
returns-in-Plus c = record { token = lexeme c.in-Some.token; here = c.in-Some.ensures; is = record { many = inl c.in-Plus.is; marks = sym (ap is_marking c.in-Plus.is); is_at = refl } }

pub returns-in-Star : goal.returns-in-Star
returns-in-Star c = record { token = lexeme c.in-Some.token; here = c.in-Some.ensures; is = record { many = c.in-Star.is; marks = sym (ap is_marking c.in-Star.is); is_at = refl } }

pub returns-in_default-word : goal.returns-in_default-word
returns-in_default-word c = let d = c.in_default-word in found_other _ c.in-Some.ensures (d.not-Minus, no_many _ d.not-Or d.not-And d.not-Plus d.not-Star, d.not-Percent, no_rel _ d.not-Equal d.not-NotEqual d.not-Less d.not-AtMost d.not-Greater d.not-AtLeast)
