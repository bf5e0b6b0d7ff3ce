-- One class of each kind, class by class and place by place.
use Rattle.std.proofs.Common.{ℕ, ◌+◌, ◌≡◌, ◌<◌, inl, inr, Vec, List, [], ◌∷◌, ◌++◌, get_or, length, Contains, All, sym, ap, subst, ◌∙◌, arith}
use Rattle.std.proofs.lemmas.Bool.{cases_lt}
use Rattle.std.proofs.lemmas.List.{map-append}
use Rattle.std.proofs.lemmas.List.Elements.{Contains-append_left, Contains-push, Contains-push_cases}
use Rattle.sta_classes.specs.Plain.{PlainTable, kind_at}
use Rattle.sta_classes.specs.Rows.{lists_of}
use Rattle.sta_theory.proofs.Lists.{none_in}
use Rattle.sta_ops.proofs.EachRule.{in_all}
use Rattle.sta_min.specs.Kinds.{nested, AreOfAllKinds, AreOfPlaces, AreOfAllPlaces}
use Rattle.sta_min.proofs.Made.{AreMade, made_more, lists_made}

module _ {A V : Type 0} (t : PlainTable A V) (c j : ℕ) where
  pub none_of_kinds : (n : ℕ) (classes : List ℕ) → n ≡ 0 → classes ≡ [] → AreOfAllKinds t c j n classes
  none_of_kinds n classes e is = record { low = λ k at. absurd (none_in k (subst (λ l. Contains l k) is at)); all = λ k low. absurd (omega (arith, low, e)) }

  module _ (n : ℕ) (classes : List ℕ) (are : AreOfAllKinds t c j n classes) where
    pub kinds_known : (m : ℕ) → n < m → All (λ k. k < m) classes
    kinds_known m low = in_all (λ k. k < m) classes (λ k at. omega (arith, are.low k at, low))

    -- a class of a kind that is there
    pub old_kind : (i : ℕ) × Contains classes i × (kind_at t c j i ≡ kind_at t c j n) → AreOfAllKinds t c j (n + 1) classes
    old_kind there = record {
      low = λ k at. omega (arith, are.low k at);
      all = λ k low. elim (cases_lt k n) [
        | inl before ↦ are.all k before
        | inr after ↦ (let last : n ≡ k = omega (arith, low, after) in (there.0, there.1, there.2 ∙ ap (kind_at t c j) last))
      ];
    }

    -- and of a new one
    pub new_kind : (more : List ℕ) → more ≡ classes ++ n ∷ [] → AreOfAllKinds t c j (n + 1) more
    new_kind more is = subst (AreOfAllKinds t c j (n + 1)) (sym is) (record {
      low = λ k at. elim (Contains-push_cases classes n k at) [ inl old ↦ omega (arith, are.low k old) | inr e ↦ omega (arith, e) ];
      all = λ k low. elim (cases_lt k n) [
        | inl before ↦ (let (i, at, same) = are.all k before in (i, Contains-append_left classes (n ∷ []) i at, same))
        | inr after ↦ (let last : n ≡ k = omega (arith, low, after) in (n, Contains-push classes n, ap (kind_at t c j) last))
      ];
    })

module _ {A V : Type 0} (t : PlainTable A V) where
  pub more_places : {G : Type 0} (c n : ℕ) (old new : List (Vec ℕ G)) (v : Vec ℕ G) → AreOfPlaces t c n (lists_of old) → AreOfAllKinds t c n (length t.found) v.items → new ≡ old ++ v ∷ [] → AreOfPlaces t c (n + 1) (lists_of new)
  more_places c n old new v are here put =
      let made : AreMade [] (λ j. AreOfAllKinds t c j (length t.found)) (n + 1) (lists_of new) =
      lists_made (λ j. AreOfAllKinds t c j (length t.found)) n old new v (record { many = are.many; each = are.each }) here put in
      record { many = made.many; each = made.each }

  pub more_constructors : {G H : Type 0} (ranks : List ℕ) (n : ℕ) (old new : List (Vec (Vec ℕ G) H)) (v : Vec (Vec ℕ G) H) → AreOfAllPlaces t ranks n old → AreOfPlaces t n (get_or ranks n 0) (lists_of v.items) → new ≡ old ++ v ∷ [] → AreOfAllPlaces t ranks (n + 1) new
  more_constructors ranks n old new v are here put =
      let P : ℕ → List (List ℕ) → Type 0 = λ c. AreOfPlaces t c (get_or ranks c 0) in
      let made : AreMade [] P (n + 1) (nested new) =
      made_more [] P n (nested old) (nested new) (lists_of v.items) (record { many = are.many; each = are.each }) here (ap nested put ∙ map-append (λ w. lists_of w.items) old (v ∷ [])) in
      record { many = made.many; each = made.each }
