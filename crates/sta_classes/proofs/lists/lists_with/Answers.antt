use Rattle.std.proofs.Common.{ℕ, List, [], map, get_or, Contains, ◌↔◌, ◌≡◌, ◌++◌, ◌∷◌, sym, ap, ap₂, subst, ◌∙◌, arith}
use Rattle.std.proofs.lemmas.List.{get_or-map}
use Rattle.sta_classes.specs.Lists.{MayStand, IsListWith}
use Rattle.sta_classes.specs.Rows.{lists_of}
use Rattle.sta_classes.proofs.Rows.{lists_push}
use Rattle.sta_classes.proofs.Choices.{lists_first, lists_more}
use Rattle.sta_classes.proofs.lists.lists_with.Goals as goal

pub loop-j-init : goal.loop-j-init
loop-j-init c = lists_first (map (λ p. p.firsts.items) c.args.places.now) c.args.place c.args.class (lists_of c.push.new.self.items) (ap lists_of c.in_ok-push.ensures.items ∙ lists_push c.new-lists.result.items c.new.result ∙ ap₂ (λ a b. lists_of a ++ b ∷ []) c.new-lists.ensures.items c.new.ensures.items)

pub loop-j-preserved : goal.loop-j-preserved
loop-j-preserved c =
    let here : c.deref-in-loop-j.result.now ≡ get_or (map (λ p. p.firsts.items) c.args.places.now) c.loop-j.j [] =
    c.deref-in-loop-j.ensures.value ∙ sym (get_or-map (λ p. p.firsts.items) c.args.places.now c.loop-j.j c.index-places-j.result [] c.loop-j-test.true) in
    lists_more (map (λ p. p.firsts.items) c.args.places.now) c.args.place c.args.class c.loop-j.j (lists_of c.loop-j.lists.items) (lists_of c.in_ok-lists.lists.items) c.loop-j.invariant
    (λ ks. subst (λ l. Contains (lists_of c.in_ok-lists.lists.items) ks ↔ ((front : List ℕ) × Contains (lists_of l) front × (k : ℕ) × (Contains (get_or (map (λ p. p.firsts.items) c.args.places.now) c.loop-j.j []) k × MayStand c.args.place c.args.class c.loop-j.j k) × (front ++ k ∷ [] ≡ ks))) c.deref.ensures.value
    (subst (λ l. Contains (lists_of c.in_ok-lists.lists.items) ks ↔ ((front : List ℕ) × Contains (lists_of c.deref.result.now) front × (k : ℕ) × (Contains l k × MayStand c.args.place c.args.class c.loop-j.j k) × (front ++ k ∷ [] ≡ ks))) here (c.in_ok-lists.ensures ks)))

pub returns : goal.returns
returns c = subst (λ n. (ks : List ℕ) → Contains (lists_of c.loop-j.lists.items) ks ↔ IsListWith (map (λ p. p.firsts.items) c.args.places.now) c.args.place c.args.class n ks) (omega (arith, c.loop-j.auto.j-end, c.loop-j-test.false)) c.loop-j.invariant
