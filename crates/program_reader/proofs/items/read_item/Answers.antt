use Rattle.model_program.specs.declared.Word.TheVariants as word
use Rattle.label_reader.proofs.Exits.{exit}
use Rattle.program_reader.proofs.Steps.{token_taken}
use Rattle.program_reader.proofs.ItemForms.{item_reads, type_read, type_fails, item_refused, no_item_word, stops_at_end, stops_at_first}
use Rattle.program_reader.proofs.items.read_item.Goals as goal

pub returns-in_default : goal.returns-in_default
returns-in_default c = item_refused _ (stops_at_end _ c.in_default.ensures)

pub returns-in_err-item-in-TypeWord : goal.returns-in_err-item-in-TypeWord
returns-in_err-item-in-TypeWord c = exit _ _ _ _ c.from_residual.result c.from_residual.ensures.1 (type_fails _ _ _ _ _ (token_taken c.in-Some.ensures c.advance.ensures) c.in-TypeWord.is c.in_err-item-in-TypeWord.ensures)

pub returns-in_ok-item-in-TypeWord : goal.returns-in_ok-item-in-TypeWord
returns-in_ok-item-in-TypeWord c = type_read _ _ _ _ _ (token_taken c.in-Some.ensures c.advance.ensures) c.in-TypeWord.is c.in_ok-item-in-TypeWord.ensures

pub returns-in-Tree : goal.returns-in-Tree
returns-in-Tree c = item_reads _ word.Tree _ _ _ _ c.read_tree_item.result (token_taken c.in-Some.ensures c.advance.ensures) c.in-Tree.is c.read_tree_item.ensures

pub returns-in-Lang : goal.returns-in-Lang
returns-in-Lang c = item_reads _ word.Lang _ _ _ _ c.read_lang_item.result (token_taken c.in-Some.ensures c.advance.ensures) c.in-Lang.is c.read_lang_item.ensures

pub returns-in-Trans : goal.returns-in-Trans
returns-in-Trans c = item_reads _ word.Trans _ _ _ _ c.read_trans_item.result (token_taken c.in-Some.ensures c.advance.ensures) c.in-Trans.is c.read_trans_item.ensures

pub returns-in-Def : goal.returns-in-Def
returns-in-Def c = item_reads _ word.Def _ _ _ _ c.read_def_item.result (token_taken c.in-Some.ensures c.advance.ensures) c.in-Def.is c.read_def_item.ensures

pub returns-in-AssertTrue : goal.returns-in-AssertTrue
returns-in-AssertTrue c = item_reads _ word.AssertTrue _ _ _ _ c.read_assertion.result (token_taken c.in-Some.ensures c.advance.ensures) c.in-AssertTrue.is c.read_assertion.ensures

pub returns-in-AssertFalse : goal.returns-in-AssertFalse
returns-in-AssertFalse c = item_reads _ word.AssertFalse _ _ _ _ c.read_assertion-in-AssertFalse.result (token_taken c.in-Some.ensures c.advance.ensures) c.in-AssertFalse.is c.read_assertion-in-AssertFalse.ensures

pub returns-in_default-word : goal.returns-in_default-word
returns-in_default-word c = let d = c.in_default-word in item_refused _ (stops_at_first _ _ _ c.in-Some.ensures (no_item_word _ d.not-TypeWord d.not-Tree d.not-Lang d.not-Trans d.not-Def d.not-AssertTrue d.not-AssertFalse))
