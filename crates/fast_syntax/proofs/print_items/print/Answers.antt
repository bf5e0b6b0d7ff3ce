use Rattle.std.proofs.Common.{◌++◌, map, ap, ◌∙◌}
use Rattle.std.specs.Prelude.{encode_utf8_all}
use Rattle.std.specs.Str.{chars}
use Rattle.model_program.specs.Cuts.{texts_of}
use Rattle.model_program.proofs.TokenTexts.{tokens_texts}
use Rattle.model_grammar.specs.Printed.{lines}
use Rattle.model_grammar.proofs.ReadBack.{spells_again}
use Rattle.grammar_laws.proofs.KeepsItems.{printed_shallow}
use Rattle.fast_syntax.specs.Plain.{plain_item, plain_program}
use Rattle.fast_syntax.proofs.print_items.print.Goals as goal

pub returns-clause-reads_back : goal.returns-clause-reads_back
returns-clause-reads_back c =
    let page = c.in_ok-append_items.ensures.is ∙ (λ i. c.new-page.ensures i ++ texts_of (lines (map plain_item (c.deref.ensures.value i)))) in
    λ bytes text.
    let have = tokens_texts (chars bytes) text.tokens text.are in
    spells_again (plain_program c.args.program.now) text.tokens c.into_bytes.result.items text.spelled have c.into_bytes.ensures.encoded (c.into_bytes.ensures.bytes ∙ ap encode_utf8_all page) (printed_shallow (plain_program c.args.program.now) text.tokens text.spelled have text.shallow)
