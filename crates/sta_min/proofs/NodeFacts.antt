-- The nodes of probes are nodes over known classes with kept labels.
use Rattle.std.proofs.Common.{ℕ, ◌≡◌, ◌<◌, inl, inr, Vec, Bool, List, [], set, get_or, length, All, refl, sym, ap, subst, ◌∙◌, arith}
use Rattle.std.proofs.lemmas.Bool.{cases_eq}
use Rattle.std.proofs.lemmas.List.{length-set, get_or-set_same, get_or-set_other}
use Rattle.model_tree.specs.Label.{Label}
use Rattle.label_core.specs.Meaning.{Meaning}
use Rattle.sta_classes.specs.Plain.{PlainTable}
use Rattle.sta_classes.specs.Rows.{lists_of}
use Rattle.sta_classes.proofs.Rows.{list_at}
use Rattle.sta_min.specs.Nodes.{IsGood}
use Rattle.sta_min.specs.Probes.{PlainProbe}
use Rattle.sta_min.specs.Steps.{IsNode}
use Rattle.sta_min.specs.Values.{TellAllApart}

pub all_set : {X : Type 0} (P : X → Type 0) (xs : List X) (i : ℕ) (x : X) → All P xs → P x → All P (set xs i x)
all_set P xs i x h here k d low =
    let inside : k < length xs = omega (arith, low, length-set xs i x) in
    elim (cases_eq k i) [
      | inl same ↦ subst P (sym (ap (λ j. get_or (set xs i x) j d) same ∙ get_or-set_same xs i x d (omega (arith, inside, same)))) here
      | inr other ↦ subst P (sym (get_or-set_other xs i k x d other)) (h k d inside)
    ]

module _ {A V W : Type 0} {label_of : V → Label} {holds : A → Label → Bool} (M : Meaning label_of holds W) (t : PlainTable A V) where
  pub value_kept : (values : List (List V)) → TellAllApart M t.machine.rules (length t.machine.ranks) values → (c : ℕ) → c < length t.machine.ranks → (i : ℕ) (v : V) → i < length (get_or values c []) → get_or (get_or values c []) i v ≡ v → M.keeps (label_of v)
  value_kept values tell c low i v inside is = subst (λ x. M.keeps (label_of x)) is ((tell.each c low).kept i v inside)

  pub good_node : {G : Type 0} (vs : List (Vec V G)) → TellAllApart M t.machine.rules (length t.machine.ranks) (lists_of vs) → (p : PlainProbe) → IsGood t (lists_of vs) p → (w : Vec V G) → p.constructor < length vs → w ≡ get_or vs p.constructor w → (v : V) → v ≡ get_or w.items p.value v
      → (class : ℕ) → class < length t.found → (children : List ℕ) → children ≡ set p.children p.place class → IsNode M t p.constructor v children
  good_node vs tell p good w inside at v value class low children is = record {
    low = good.low;
    kept =
        let those : w.items ≡ get_or (lists_of vs) p.constructor [] = list_at vs p.constructor w w.items inside at refl in
        value_kept (lists_of vs) tell p.constructor good.low p.value v good.value (sym (value ∙ ap (λ l. get_or l p.value v) those));
    wide = ap length is ∙ length-set p.children p.place class ∙ good.wide;
    known = subst (All (λ k. k < length t.found)) (sym is) (all_set (λ k. k < length t.found) p.children p.place class good.known low);
  }
