use Rattle.std.proofs.Common.{◌≡◌, ◌*◌, ◌≤◌, ◌&&◌, map, length, vec_len, ap, ap₂, sym, ◌∙◌, arith}
use Rattle.std.proofs.lemmas.Bool.Decides.{nat_tests}
use Rattle.model_tree.specs.Limits.{most_outputs}
use Rattle.apply_laws.specs.Meant.{meant}
use Rattle.apply_laws.specs.Listing.{products, has_some, first_some, only_if}
use Rattle.sttr_apply.specs.Plain.{out_cut, row_cuts}
use Rattle.sttr_apply.specs.Products.{meant_rows}
use Rattle.sttr_apply.proofs.Rows.{at_none, at_some, rows_few, meant_products, product_nodes_are}
use Rattle.sttr_apply.proofs.products.combine_lists.Goals.{then-has_out, else-has_out}
use Rattle.sttr_apply.proofs.products.combine_lists.Goals as goal

pub invariant_of-result : goal.invariant_of-result
invariant_of-result g c =
    let label = g.T.Theory.label_of in
    let rows = at_some c.in_ok-rows.field-0 (λ rows. meant_rows label rows.items ≡ products (map (meant label) (map out_cut c.args.first.outs.items)) (meant_rows label c.args.rest.rows.items)) c.in-Some.rows c.in-Some.is c.in_ok-rows.ensures.rows in
    let few = rows_few label c.in-Some.rows.items c.args.first.outs.items c.args.rest.rows.items rows in
    let many : vec_len c.args.first.outs * vec_len c.args.rest.rows ≡ length c.args.first.outs.items * length c.args.rest.rows.items = ap₂ (λ m n. m * n) c.args.first.outs.ok.0 c.args.rest.rows.ok.0 in
    let low : vec_len c.args.first.outs * vec_len c.args.rest.rows ≤ most_outputs = grind (arith, nat_tests, c.if-saturating_mul-gt-MOST_OUTPUTS.false, c.saturating_mul.ensures, c.len.ensures, c.len-2.ensures) in
    record { few = omega (arith, few, many, low) }

pub returns-in-Some : goal.returns-in-Some
returns-in-Some g c =
    let label = g.T.Theory.label_of in
    let both : c.if-has_out.some ≡ (has_some (map out_cut c.args.first.outs.items) c.args.first.far && has_some (map row_cuts c.args.rest.rows.items) c.args.rest.far) =
    elim c.if-has_out.branch [
      | then-has_out w ↦ w.some-is ∙ (w.has_row-some.ensures ∙ ap (λ a. a && has_some (map row_cuts c.args.rest.rows.items) c.args.rest.far) (sym (sym c.has_out.ensures ∙ w.if-has_out.true)))
      | else-has_out w ↦ w.some-is ∙ w.if-has_out.false ∙ ap (λ a. a && has_some (map row_cuts c.args.rest.rows.items) c.args.rest.far) (sym (sym c.has_out.ensures ∙ w.if-has_out.false))
    ] in
    let rows = at_some c.in_ok-rows.field-0 (λ rows. meant_rows label rows.items ≡ products (map (meant label) (map out_cut c.args.first.outs.items)) (meant_rows label c.args.rest.rows.items)) c.in-Some.rows c.in-Some.is c.in_ok-rows.ensures.rows in (
      rows ∙ sym (meant_products label (map out_cut c.args.first.outs.items) (map row_cuts c.args.rest.rows.items)),
      c.far_of_both-far.ensures ∙ ap (λ b. only_if b (first_some c.args.first.far c.args.rest.far)) both,
    )

pub returns-in-None : goal.returns-in-None
returns-in-None g c =
    let none = at_none c.in_ok-rows.field-0 c.in-None.is c.in_ok-rows.ensures.none in
    omega (arith, none, product_nodes_are c.args.first.outs.items c.args.rest.rows.items)
