use Rattle.std.proofs.Common.{List, ℕ, ap, sym}
use Rattle.model_program.specs.declared.Word.TheVariants.{Id}
use Rattle.model_program.specs.Syntax.{Name}
use Rattle.fast_lex.specs.Tokens.{lexeme}
use Rattle.read_forms.proofs.Forms.{as_read, as_fails, read_at}
use Rattle.read_forms.proofs.Words.{word_read, word_refused}
use Rattle.label_reader.proofs.Exits.{stepped}
use Rattle.label_reader.proofs.Names.{name_makes}
use Rattle.label_reader.proofs.reader.Reader.name.Goals as goal

pub returns-in_default : goal.returns-in_default
returns-in_default c = as_fails _ (name_makes _ _) (record { why = word_refused _ _ c.in_default.ensures })

pub returns : goal.returns
returns c =
    let e = stepped _ c.in-Some.ensures c.advance.ensures in
    let named : List ℕ → Name = λ l. record { text = l; place = c.in-Some.id.place } in
    read_at (ap named (sym c.in_ok-text.ensures)) (as_read (name_makes _ _) (word_read Id (lexeme c.in-Some.id) _ _ e.0 e.1))
