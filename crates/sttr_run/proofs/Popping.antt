-- Lists that are taken from the end until nothing is left.
use Rattle.std.proofs.Common.{ℕ, ◌≡◌, ◌⊎◌, inl, inr, Bool, false, List, [], ◌∷◌, ◌++◌, Contains, sym, subst}
use Rattle.std.specs.Prelude.{Option}
use Rattle.model_tree.specs.Label.{Label}
use Rattle.model_sttr.specs.Terms.{Term}
use Rattle.model_sttr.specs.Transducer.{Head}
use Rattle.sttr_theory.specs.Triples.{Triple}
use Rattle.sttr_theory.specs.Ways.{WayOf}
use Rattle.sttr_run.specs.Drafts.{all_say}
use Rattle.sttr_run.specs.Found.{CoversPicks}
use Rattle.sttr_run.specs.Picks.{pick_guards, AreHolding}
use Rattle.sttr_run.specs.Sets.{AreEach}
use Rattle.sttr_run.specs.declared.drafts.Draft.{Draft}
use Rattle.sttr_run.specs.declared.picks.Pick.{Pick}
use Rattle.sttr_run.proofs.Members.{nil_out, push_out, push_old, push_new}
use Rattle.sttr_run.proofs.Pairing.{each_none, each_more}

-- what is left and what is done are the whole
pub record Splits {X : Type 0} (whole rest done : List X) : Type 0 where
  pub out : (x : X) → Contains whole x → Contains rest x ⊎ Contains done x
  pub back : (x : X) → Contains done x → Contains whole x
  pub left : (x : X) → Contains rest x → Contains whole x

module _ {X : Type 0} where
  pub splits_start : (whole : List X) → Splits whole whole []
  splits_start whole = record { out = λ x at. inl at; back = λ x at. absurd (nil_out x at); left = λ x at. at }

  pub splits_more : (whole rest new done : List X) (x : X) → rest ≡ new ++ x ∷ [] → Splits whole rest done → Splits whole new (done ++ x ∷ [])
  splits_more whole rest new done x e s = record {
    out = λ y at. elim (s.out y at) [
      | inl r ↦ elim (push_out new x y (subst (λ zs. Contains zs y) e r)) [ inl n ↦ inl n | inr is ↦ inr (subst (Contains (done ++ x ∷ [])) is (push_new done x)) ]
      | inr d ↦ inr (push_old done x y d)
    ];
    back = λ y at. elim (push_out done x y at) [ inl d ↦ s.back y d | inr is ↦ s.left y (subst (Contains rest) is (subst (λ zs. Contains zs x) (sym e) (push_new new x))) ];
    left = λ y at. s.left y (subst (λ zs. Contains zs y) (sym e) (push_old new x y at));
  }

  -- the one that is taken was in the whole
  pub popped_in : (whole rest new done : List X) (x : X) → rest ≡ new ++ x ∷ [] → Splits whole rest done → Contains whole x
  popped_in whole rest new done x e s = s.left x (subst (λ zs. Contains zs x) (sym e) (push_new new x))

  pub all_done : (whole rest done : List X) → rest ≡ [] → Splits whole rest done → (x : X) → Contains whole x → Contains done x
  all_done whole rest done e s x at = elim (s.out x at) [ inl r ↦ absurd (nil_out x (subst (λ zs. Contains zs x) e r)) | inr d ↦ d ]

module _ {X Y : Type 0} (R : X → Y → Type 0) where
  -- some are done
  abbrev pub EachSoFar : List X → List X → List Y → Type 0
  EachSoFar whole rest ys = (done : List X) × Splits whole rest done × AreEach R done ys

  pub so_far_start : (whole : List X) → EachSoFar whole whole []
  so_far_start whole = ([], splits_start whole, each_none R)

  pub so_far_more : (whole rest new : List X) (old more : List Y) (x : X) (y : Y) → rest ≡ new ++ x ∷ [] → more ≡ old ++ y ∷ [] → EachSoFar whole rest old → R x y → EachSoFar whole new more
  so_far_more whole rest new old more x y e f (done, splits, each) r = (done ++ x ∷ [], splits_more whole rest new done x e splits, subst (AreEach R (done ++ x ∷ [])) (sym f) (each_more R done old x y each r))

  pub so_far_end : (whole rest : List X) (ys : List Y) → rest ≡ [] → EachSoFar whole rest ys → AreEach R whole ys
  so_far_end whole rest ys e (done, splits, each) = record {
    each = λ y at. let (x, in_done, r) = each.each y at in (x, splits.back x in_done, r);
    all = λ x at. each.all x (all_done whole rest done e splits x at);
  }

-- those that may hold, of the ones that are done
module _ {A M : Type 0} (holds : A → Label → Bool) (make : M → Label → Label) (D : Label → Type 0) where
  abbrev pub HoldSoFar : List (Pick A M) → List (Pick A M) → List (Pick A M) → Type 0
  HoldSoFar whole rest kept = (done : List (Pick A M)) × Splits whole rest done × AreHolding holds make D done kept

  pub hold_start : (whole : List (Pick A M)) → HoldSoFar whole whole []
  hold_start whole = ([], splits_start whole, record { each = λ x at. absurd (nil_out x at); all = λ x at. absurd (nil_out x at) })

  pub hold_skip : (whole rest new kept : List (Pick A M)) (x : Pick A M) → rest ≡ new ++ x ∷ [] → HoldSoFar whole rest kept → ((l : Label) → D l → all_say holds (pick_guards x) l ≡ false) → HoldSoFar whole new kept
  hold_skip whole rest new kept x e (done, splits, h) never = (
    done ++ x ∷ [],
    splits_more whole rest new done x e splits,
    record {
      each = λ y at. push_old done x y (h.each y at);
      all = λ y at. elim (push_out done x y at) [ inl d ↦ h.all y d | inr is ↦ subst (λ y. ((l : Label) → D l → all_say holds (pick_guards y) l ≡ false) ⊎ Contains kept y) is (inl never) ];
    },
  )

  pub hold_more : (whole rest new old more : List (Pick A M)) (x : Pick A M) → rest ≡ new ++ x ∷ [] → more ≡ old ++ x ∷ [] → HoldSoFar whole rest old → HoldSoFar whole new more
  hold_more whole rest new old more x e f (done, splits, h) = (
    done ++ x ∷ [],
    splits_more whole rest new done x e splits,
    subst (AreHolding holds make D (done ++ x ∷ [])) (sym f) (record {
      each = λ y at. elim (push_out old x y at) [ inl b ↦ push_old done x y (h.each y b) | inr is ↦ subst (Contains (done ++ x ∷ [])) is (push_new done x) ];
      all = λ y at. elim (push_out done x y at) [
        | inl d ↦ elim (h.all y d) [ inl never ↦ inl never | inr k ↦ inr (push_old old x y k) ]
        | inr is ↦ inr (subst (Contains (old ++ x ∷ [])) is (push_new old x))
      ];
    }),
  )

  pub hold_end : (whole rest kept : List (Pick A M)) → rest ≡ [] → HoldSoFar whole rest kept → AreHolding holds make D whole kept
  hold_end whole rest kept e (done, splits, h) = record {
    each = λ x at. splits.back x (h.each x at);
    all = λ x at. h.all x (all_done whole rest done e splits x at);
  }

  pub hold_in : (whole rest new kept : List (Pick A M)) (x : Pick A M) → rest ≡ new ++ x ∷ [] → HoldSoFar whole rest kept → Contains whole x
  hold_in whole rest new kept x e (done, splits, h) = popped_in whole rest new done x e splits

  -- what is found of the picks that are done
  module _ {X : Type 0} (terms : X → List (Term Triple (Label → Label))) (ways : Option (Term Head M) → (ℕ → List ℕ) → List (WayOf Label X)) where
    abbrev pub PickedSoFar : List (Pick A M) → List (Pick A M) → List (Draft A M) → Type 0
    PickedSoFar whole rest ys = (done : List (Pick A M)) × Splits whole rest done × CoversPicks holds make D terms ways done ys

    pub picked_end : (whole rest : List (Pick A M)) (ys : List (Draft A M)) → rest ≡ [] → PickedSoFar whole rest ys → CoversPicks holds make D terms ways whole ys
    picked_end whole rest ys e (done, splits, c) = record {
      each = λ y at. let (x, in_done, f) = c.each y at in (x, splits.back x in_done, f);
      all = λ x at. c.all x (all_done whole rest done e splits x at);
    }

    pub picked_in : (whole rest new : List (Pick A M)) (ys : List (Draft A M)) (x : Pick A M) → rest ≡ new ++ x ∷ [] → PickedSoFar whole rest ys → Contains whole x
    picked_in whole rest new ys x e (done, splits, c) = popped_in whole rest new done x e splits
