use Rattle.std.proofs.Common.{◌≡◌, [], false, Option, None, map, take, sym, ap, subst, ◌∙◌}
use Rattle.std.proofs.lemmas.List.{drop_all}
use Rattle.std.proofs.lemmas.Simd.{map-map}
use Rattle.model_checks.proofs.FirstOf.{none_first}
use Rattle.program_check.specs.Signed.{own_signature}
use Rattle.program_check.proofs.Ranked.{ranked_at}
use Rattle.fast_syntax.specs.Plain.{plain_item}
use Rattle.model_checks.specs.Failures.{failure, first_among}
use Rattle.model_checks.specs.Programs.{failures, item_limit, failures_behind, refusal_of}
use Rattle.program_check.proofs.Noting.{as_same, nothing, first_among-append}
use Rattle.program_check.proofs.Numbering.{item_more}
use Rattle.std.specs.Option.{option_map_or}
use Rattle.model_tree.specs.Limits.{most_items}
use Rattle.fast_fault.specs.declared.code.Code.TheVariants.{TooMany}
use Rattle.model_grammar.specs.Syntax as plain
use Rattle.fast_syntax.specs.declared.items.Item.{Item}
use Rattle.program_check.specs.declared.checker.Checker.{Checker}
use Rattle.program_check.specs.Notes.{Notes}
use Rattle.program_check.proofs.Found.{there_by, past_by}
use Rattle.program_check.proofs.programs.number_and_sign.Goals as goal
use Rattle.program_check.proofs.programs.number_and_sign.Goals.{then-items-gt-MOST_ITEMS, else-items-gt-MOST_ITEMS}

pub items-init : goal.items-init
items-init c h =
    let all = map plain_item c.args.items.now in
    let behind = failures_behind all [] all in
    let start : Checker = record { known = None; ran_out = false; alloc = c.args.alloc } in
    let plain_limit = λ (o : Option plain.Item). option_map_or (λ (x : plain.Item). failure TooMany x.place) o [] in
    let limit : Notes start c.if-items-gt-MOST_ITEMS.checker (item_limit all) = elim c.if-items-gt-MOST_ITEMS.branch [
      | then-items-gt-MOST_ITEMS w ↦ subst (λ (x : Checker). Notes start x (item_limit all)) (sym w.checker-is)
          (as_same (ap plain_limit (there_by plain_item c.args.items.now most_items w.index-items-10000.result w.if-items-gt-MOST_ITEMS.true w.index-items-10000.is)) (as_same (ap (λ (x : Item). failure TooMany x.place) (sym w.index-items-10000.is)) w.note.ensures))
      | else-items-gt-MOST_ITEMS w ↦ subst (λ (x : Checker). Notes start x (item_limit all)) (sym w.checker-is) (as_same (ap plain_limit (past_by plain_item c.args.items.now most_items w.if-items-gt-MOST_ITEMS.false)) (nothing start))
    ] in
    ap (λ k. first_among k behind) (limit h).is ∙ sym (first_among-append None (item_limit all) behind)

pub items-preserved : goal.items-preserved
items-preserved c h =
    let one = c.check_item.ensures h in
    item_more c.args.items.now c.items.before c.index-items-before.result c.items.checker.known _ _ c.items-test.true c.index-items-before.is one.is (c.items.invariant one.had)

pub returns-in-Some : goal.returns-in-Some
returns-in-Some c =
    let all = map plain_item c.args.items.now in
    let i = c.items.before in
    let known : c.items.checker.known ≡ refusal_of all = ap (λ xs. first_among c.items.checker.known (failures_behind all (take i all) (map plain_item xs))) (sym (drop_all i c.args.items.now c.items-test.false)) ∙ c.items.invariant c.if-checker.false in
    sym known ∙ c.in-Some.is

pub all_made-requires : goal.all_made-requires
all_made-requires c =
    let all = map plain_item c.args.items.now in
    let n = c.items.before in
    let known : c.items.checker.known ≡ refusal_of all = ap (λ xs. first_among c.items.checker.known (failures_behind all (take n all) (map plain_item xs))) (sym (drop_all n c.args.items.now c.items-test.false)) ∙ c.items.invariant c.if-checker.false in
    λ i x low is. ranked_at c.args.items.now i x (none_first (failures all) (sym known ∙ c.in-None.is)) low is

pub returns-in_ok-all_made-in-None : goal.returns-in_ok-all_made-in-None
returns-in_ok-all_made-in-None c =
    let all = map plain_item c.args.items.now in
    let n = c.items.before in
    let known : c.items.checker.known ≡ refusal_of all = ap (λ xs. first_among c.items.checker.known (failures_behind all (take n all) (map plain_item xs))) (sym (drop_all n c.args.items.now c.items-test.false)) ∙ c.items.invariant c.if-checker.false in
    record {
      well_formed = none_first (failures all) (sym known ∙ c.in-None.is);
      numbered = c.in_ok-number.ensures;
      signed = c.in_ok-all_made-in-None.ensures ∙ sym (map-map own_signature plain_item c.args.items.now);
    }
