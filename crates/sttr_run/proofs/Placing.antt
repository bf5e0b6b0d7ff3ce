-- What is asked, child by child.
use Rattle.std.proofs.Common.{ℕ, zero, suc, ◌+◌, ◌<◌, ◌≡◌, ◌⊎◌, ◌↔◌, inl, inr, List, [], ◌∷◌, ◌++◌, map, get_or, length, Contains, Vec, refl, sym, subst, ap, ◌∙◌, arith}
use Rattle.std.proofs.Math.ListN.{set}
use Rattle.std.proofs.lemmas.List.{map-append}
use Rattle.sttr_theory.specs.Triples.{LookName, asked}
use Rattle.sttr_theory.proofs.AlikeWays.{asked_append}
use Rattle.sttr_run.specs.Drafts.{name_of, IsAskedIn}
use Rattle.std.specs.Prelude.{Option, Some, None, MatchOption}
use Rattle.std.specs.Option.{option_map, option_to_list}
use Rattle.sttr_run.specs.Finished.{triples_at, IsOnly}
use Rattle.sttr_run.specs.Plain.{plain_triple}
use Rattle.sttr_run.specs.declared.drafts.Demand.{Demand}
use Rattle.sttr_run.specs.declared.triples.Triple.{Triple}
use Rattle.sttr_run.proofs.Asking.{asked_more, nothing_asked}
use Rattle.sttr_run.proofs.Members.{nil_out}
use Rattle.sttr_run.proofs.Popping.{Splits, splits_start, splits_more, all_done}
use Rattle.sttr_theory.proofs.Members.{here, in_single, in_either, in_left, in_right}

same_or_not : (i j : ℕ) → (i ≡ j) ⊎ ¬ (i ≡ j)
same_or_not zero zero = inl refl
same_or_not zero (suc j) = inr (λ e. cc)
same_or_not (suc i) zero = inr (λ e. cc)
same_or_not (suc i) (suc j) = elim (same_or_not i j) [ inl e ↦ inl (ap suc e) | inr n ↦ inr (λ e. n (cc)) ]

module _ {G : Type 0} where
  -- room for one more child
  pub room_more : (lists : List (Vec Triple G)) (v : Vec Triple G) (j : ℕ) → v.items ≡ [] → triples_at (lists ++ v ∷ []) j ≡ triples_at lists j
  room_more [] v zero e = ap (map plain_triple) e
  room_more [] v (suc j) e = refl
  room_more (u ∷ lists) v zero e = refl
  room_more (u ∷ lists) v (suc j) e = room_more lists v j e

  -- one more triple for the child
  set_here : (lists : List (Vec Triple G)) (i : ℕ) (v : Vec Triple G) → i < length lists → triples_at (set lists i v) i ≡ map plain_triple v.items
  set_here [] i v low = absurd (omega (arith, low))
  set_here (u ∷ lists) zero v low = refl
  set_here (u ∷ lists) (suc i) v low = set_here lists i v (omega (arith, low))

  set_there : (lists : List (Vec Triple G)) (i j : ℕ) (v : Vec Triple G) → ¬ (i ≡ j) → triples_at (set lists i v) j ≡ triples_at lists j
  set_there [] i j v apart = refl
  set_there (u ∷ lists) zero zero v apart = absurd (apart refl)
  set_there (u ∷ lists) zero (suc j) v apart = refl
  set_there (u ∷ lists) (suc i) zero v apart = refl
  set_there (u ∷ lists) (suc i) (suc j) v apart = set_there lists i j v (λ e. apart (ap suc e))

  at_of : (lists : List (Vec Triple G)) (i : ℕ) (u : Vec Triple G) → i < length lists → u ≡ get_or lists i u → triples_at lists i ≡ map plain_triple u.items
  at_of [] i u low is = absurd (omega (arith, low))
  at_of (w ∷ lists) zero u low is = ap (λ (w : Vec Triple G). map plain_triple w.items) (sym is)
  at_of (w ∷ lists) (suc i) u low is = at_of lists i u (omega (arith, low)) is

  pub placed_one : (lists : List (Vec Triple G)) (i : ℕ) (u v : Vec Triple G) (t : Triple) (name : LookName) → i < length lists → u ≡ get_or lists i u → v.items ≡ u.items ++ t ∷ [] → asked (plain_triple t ∷ []) ≡ name ∷ [] → (j : ℕ) (n : LookName)
      → Contains (asked (triples_at (set lists i v) j)) n ↔ (Contains (asked (triples_at lists j)) n ⊎ ((i ≡ j) × (name ≡ n)))
  placed_one lists i u v t name low is e asks j n = elim (same_or_not i j) [
    | inl same ↦ subst (λ j. Contains (asked (triples_at (set lists i v) j)) n ↔ (Contains (asked (triples_at lists j)) n ⊎ ((i ≡ j) × (name ≡ n)))) same at_i
    | inr apart ↦ (
      λ a. inl (subst (λ ts. Contains (asked ts) n) (set_there lists i j v apart) a),
      λ s. elim s [ inl a ↦ subst (λ ts. Contains (asked ts) n) (sym (set_there lists i j v apart)) a | inr b ↦ absurd (apart b.0) ],
    )
  ]
    where
      names : asked (triples_at (set lists i v) i) ≡ asked (triples_at lists i) ++ name ∷ []
      names = ap asked (set_here lists i v low ∙ ap (map plain_triple) e ∙ map-append plain_triple u.items (t ∷ [])) ∙ asked_append (map plain_triple u.items) (plain_triple t ∷ []) ∙ ap (λ ns. asked (map plain_triple u.items) ++ ns) asks ∙ ap (λ ts. asked ts ++ name ∷ []) (sym (at_of lists i u low is))

      at_i : Contains (asked (triples_at (set lists i v) i)) n ↔ (Contains (asked (triples_at lists i)) n ⊎ ((i ≡ i) × (name ≡ n)))
      at_i = (
        λ a. elim (in_either (asked (triples_at lists i)) (name ∷ []) n (subst (λ ns. Contains ns n) names a)) [ inl b ↦ inl b | inr b ↦ inr (refl, in_single name n b) ],
        λ s. subst (λ ns. Contains ns n) (sym names) (elim s [ inl b ↦ in_left (asked (triples_at lists i)) (name ∷ []) n b | inr b ↦ in_right (asked (triples_at lists i)) (name ∷ []) n (subst (Contains (name ∷ [])) b.1 (here name [])) ]),
      )

  -- the demands that are placed so far
  abbrev pub Placed : List Demand → List Demand → List (Vec Triple G) → Type 0
  Placed whole rest lists = (done : List Demand) × Splits whole rest done × ((j : ℕ) (n : LookName) → Contains (asked (triples_at lists j)) n ↔ IsAskedIn done j n)

  pub placed_start : (whole : List Demand) (lists : List (Vec Triple G)) → lists ≡ [] → Placed whole whole lists
  placed_start whole lists e = ([], splits_start whole, λ j n. (λ a. absurd (nil_out n (subst (λ ls. Contains (asked (triples_at ls j)) n) e a)), λ b. absurd (nothing_asked j n b)))

  pub placed_more : (whole rest new : List Demand) (old more : List (Vec Triple G)) (d : Demand) → rest ≡ new ++ d ∷ [] → Placed whole rest old → ((j : ℕ) (n : LookName) → Contains (asked (triples_at more j)) n ↔ (Contains (asked (triples_at old j)) n ⊎ ((d.child ≡ j) × (name_of d.ask ≡ n)))) → Placed whole new more
  placed_more whole rest new old more d e (done, splits, asks) f = (
    done ++ d ∷ [],
    splits_more whole rest new done d e splits,
    λ j n. (
      λ a. (asked_more done d j n).1 (elim ((f j n).0 a) [ inl b ↦ inl ((asks j n).0 b) | inr b ↦ inr b ]),
      λ a. (f j n).1 (elim ((asked_more done d j n).0 a) [ inl b ↦ inl ((asks j n).1 b) | inr b ↦ inr b ]),
    ),
  )

  pub placed_end : (whole rest : List Demand) (lists : List (Vec Triple G)) → rest ≡ [] → Placed whole rest lists → (j : ℕ) (n : LookName) → Contains (asked (triples_at lists j)) n ↔ IsAskedIn whole j n
  placed_end whole rest lists e (done, splits, asks) j n = (
    λ a. let (d, at, c, m) = (asks j n).0 a in (d, splits.back d at, c, m),
    λ b. (asks j n).1 (b.0, all_done whole rest done e splits b.0 b.1, b.2, b.3),
  )

-- the element that is taken from a list of no more than one
pub popped_only : {X Y : Type 0} (f : X → Y) (xs new : List X) (o : Option X) (n m : ℕ) → xs ≡ new ++ option_to_list o → n ≡ length xs → MatchOption o ((n ≡ 0) × (m ≡ 0)) (λ x. m + 1 ≡ n) → IsOnly (map f xs) (option_map f o)
popped_only f [] new None n m e l h = refl
popped_only f (x ∷ xs) new None n m e l h = absurd (omega (arith, l, h.0))
popped_only f xs [] (Some x) n m e l h = subst (λ ys. IsOnly (map f ys) (Some (f x))) (sym e) refl
popped_only f xs (y ∷ []) (Some x) n m e l h = subst (λ ys. IsOnly (map f ys) (Some (f x))) (sym e) tt
popped_only f xs (y ∷ z ∷ new) (Some x) n m e l h = subst (λ ys. IsOnly (map f ys) (Some (f x))) (sym e) tt
