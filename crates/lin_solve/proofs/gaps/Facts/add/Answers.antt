use Rattle.std.proofs.Common.{◌≡◌, ◌<◌, sym, ◌∙◌, ap, subst, arith, List, length, to_z, of_z}
use Rattle.std.specs.Prelude.{ℤ, ◌-ℤ◌, IfSome}
use Rattle.std.specs.Int.{w128}
use Rattle.std.proofs.lemmas.Int.{ints}
use Rattle.std.proofs.lemmas.List.{length-map}
use Rattle.model_tree.specs.Range.{IsLabelNumber}
use Rattle.model_form.specs.Form.{Form, value}
use Rattle.model_form.specs.Meaning.{values_of}
use Rattle.lin_solve.specs.declared.gaps.Gap.{Gap}
use Rattle.lin_solve.specs.declared.said.Fact.{Fact}
use Rattle.lin_solve.specs.Said.{IsParted, Says, said_at}
use Rattle.lin_solve.proofs.Saying.{says_at}
use Rattle.lin_solve.proofs.Gapped.{so_added}
use Rattle.lin_solve.proofs.gaps.Facts.add.Goals as goal

pub returns : goal.returns
returns c = λ us holds so.
    let atom = c.args.literal.now.atom in
    let x = value atom.left us in
    let y = value atom.right us in
    let g = c.in-Some.gap in
    let told = subst (λ o. IfSome o (λ (g : Gap). IsLabelNumber g.number × ((us : List ℤ) → IsParted g.minus g.number (value g.form us) (value atom.left us -ℤ value atom.right us)))) c.in-Some.is (c.in_ok-gap.ensures {u = tt}) in
    let place = c.in_ok-place.ensures {u = tt} us in
    let back : to_z w128 (of_z w128 g.number) ≡ g.number = let r = told.0 in omega (arith, ints) in
    let says = says_at atom.relation c.args.literal.now.sign g.minus g.number (value g.form us) x y (told.1 us) holds in
    let said = c.said_at-said.ensures ∙ ap (said_at atom.relation c.args.literal.now.sign g.minus) back in
    let vs = values_of c.place.new.self.forms.items us in
    let low : c.in_ok-place.place < length vs = (let l = place.1 in let m = length-map c.place.new.self.forms.items (λ (f : Form). value f us) in omega arith) in
    let here : Fact = record { place = c.in_ok-place.place; said = c.said_at-said.result } in
    so_added c.place.new.self.facts.items c.push.new.self.items here vs (c.in_ok-push.ensures {u = tt}).items (place.2 so)
    (low, subst (Says c.said_at-said.result) (sym place.0) (subst (λ s. Says s (value g.form us)) (sym said) says))
