use Rattle.std.proofs.Common.{ℕ, List, [], get_or, Contains, ◌↔◌, ◌≡◌, ◌++◌, ◌∷◌, subst, arith}
use Rattle.sta_classes.specs.Rows.{lists_of}
use Rattle.sta_classes.proofs.Rows.{list_at}
use Rattle.sta_min.specs.Lists.{IsListOf}
use Rattle.sta_min.proofs.Combining.{lists_first, lists_more}
use Rattle.sta_min.proofs.lists.combinations.Goals as goal

pub loop-j-init : goal.loop-j-init
loop-j-init c = lists_first (lists_of c.args.choices.now) (lists_of c.in_ok-lists.lists.items) c.in_ok-lists.ensures

pub loop-j-preserved : goal.loop-j-preserved
loop-j-preserved c =
    let here : c.deref-in-loop-j.result.now ≡ get_or (lists_of c.args.choices.now) c.loop-j.j [] = list_at c.args.choices.now c.loop-j.j c.index-choices-j.result c.deref-in-loop-j.result.now c.loop-j-test.true c.index-choices-j.is c.deref-in-loop-j.ensures.value in
    lists_more (lists_of c.args.choices.now) c.loop-j.j (lists_of c.loop-j.lists.items) (lists_of c.in_ok-lists-2.lists.items) c.loop-j.invariant
    (λ ks. subst (λ l. Contains (lists_of c.in_ok-lists-2.lists.items) ks ↔ ((front : List ℕ) × Contains (lists_of l) front × (k : ℕ) × Contains (get_or (lists_of c.args.choices.now) c.loop-j.j []) k × (front ++ k ∷ [] ≡ ks))) c.deref.ensures.value
    (subst (λ l. Contains (lists_of c.in_ok-lists-2.lists.items) ks ↔ ((front : List ℕ) × Contains (lists_of c.deref.result.now) front × (k : ℕ) × Contains l k × (front ++ k ∷ [] ≡ ks))) here (c.in_ok-lists-2.ensures ks)))

pub returns : goal.returns
returns c = subst (λ n. (ks : List ℕ) → Contains (lists_of c.loop-j.lists.items) ks ↔ IsListOf (lists_of c.args.choices.now) n ks) (omega (arith, c.loop-j.auto.j-end, c.loop-j-test.false)) c.loop-j.invariant
