-- Terms that are made of others, part by part.
use Rattle.std.proofs.Common.{ℕ, zero, suc, ◌≡◌, ◌⊎◌, inl, inr, Bool, true, Vec, Global, List, [], ◌∷◌, ◌++◌, map, Contains, Some, refl, sym, subst, ap, ◌∙◌, arith}
use Rattle.model_tree.specs.Label.{Label}
use Rattle.model_sttr.specs.Terms.{Term, on, build, with_maps, parts_with_maps, Occurs, OccursIn, StandsFor, StandFor}
use Rattle.model_sttr.specs.Transducer.{Head, identity, run}
use Rattle.model_sttr.specs.Guards.{MakesBy, MakesByOne}
use Rattle.sttr_core.specs.Terms.{plain_term}
use Rattle.sttr_core.specs.declared.term.Term as code
use Rattle.sttr_core.specs.declared.term.Term.TheVariants as written
use Rattle.sttr_core.proofs.Parts.{parts_of, parts_are}
use Rattle.sttr_theory.specs.Triples.{Triple}
use Rattle.sttr_theory.specs.Lists.{IsAt, Extends}
use Rattle.sttr_theory.proofs.Grow.{stand_map}
use Rattle.sttr_run.specs.Plain.{plain_way_term}
use Rattle.sttr_run.specs.declared.triples.WayTerm.{WayTerm}
use Rattle.sttr_run.specs.declared.triples.WayTerm.TheVariants as way
use Rattle.sttr_theory.specs.Copies.{on_same}
use Rattle.sttr_run.proofs.Copies.{way_parts}
use Rattle.sttr_preimage.specs.Names.{Adds, IsNumber, tidy}
use Rattle.sttr_preimage.specs.declared.called.Called.{Called}
use Rattle.sttr_preimage.specs.declared.called.Called.TheVariants as kind
use Rattle.sttr_preimage.specs.Called.{plain_called, unchanged, IsCall, CallsOnly, IsHeadOf, IsRenamed, IsOwnTerm, IsTermCopy}
use Rattle.sttr_preimage.specs.Tidy.{tidy_term, tidy_parts}
use Rattle.sttr_preimage.proofs.Numbered.{adds_then, adds_same, adds_wider, adds_extends}

module _ {M : Type 0} where
  -- a node by its parts
  pub way_node : (term : WayTerm M) (c : ℕ) (m : M) (parts : Vec (WayTerm M) Global) → term ≡ way.Node c m parts → plain_way_term term ≡ build c m (parts_of (map plain_way_term parts.items))
  way_node term c m parts e = ap plain_way_term e ∙ ap (build c m) (way_parts parts)

  pub out_node : (term : code.Term M) (c : ℕ) (m : M) (parts : Vec (code.Term M) Global) → term ≡ written.Node c m parts → plain_term term ≡ build c m (parts_of (map plain_term parts.items))
  out_node term c m parts e = ap plain_term e ∙ ap (build c m) (parts_are parts)

module _ {H K M N : Type 0} (R : H → K → Type 0) (D : Label → Type 0) (f : M → Label → Label) (g : N → Label → Label) where
  -- one more part
  stand_push : (ts : List (Term H M)) (zs : List (Term K N)) (t : Term H M) (z : Term K N) → StandFor R D (parts_with_maps f (parts_of ts)) (parts_with_maps g (parts_of zs)) → StandsFor R D (with_maps f t) (with_maps g z)
      → StandFor R D (parts_with_maps f (parts_of (ts ++ t ∷ []))) (parts_with_maps g (parts_of (zs ++ z ∷ [])))
  stand_push [] [] t z all one = (one, tt)
  stand_push [] (y ∷ zs) t z all one = absurd all
  stand_push (x ∷ ts) [] t z all one = absurd all
  stand_push (x ∷ ts) (y ∷ zs) t z all one = (all.0, stand_push ts zs t z all.1 one)

module _ {H M : Type 0} where
  makes_push : (ts : List (Term H M)) (t : Term H M) (k : M) → MakesByOne (parts_of (ts ++ t ∷ [])) k → MakesByOne (parts_of ts) k ⊎ MakesBy t k
  makes_push [] t k (inl o) = inr o
  makes_push [] t k (inr o) = absurd o
  makes_push (x ∷ ts) t k (inl o) = inl (inl o)
  makes_push (x ∷ ts) t k (inr o) = elim (makes_push ts t k o) [ inl old ↦ inl (inr old) | inr new ↦ inr new ]

  makes_old : (ts : List (Term H M)) (t : Term H M) (k : M) → MakesByOne (parts_of ts) k → MakesByOne (parts_of (ts ++ t ∷ [])) k
  makes_old [] t k o = absurd o
  makes_old (x ∷ ts) t k (inl o) = inl o
  makes_old (x ∷ ts) t k (inr o) = inr (makes_old ts t k o)

  makes_last : (ts : List (Term H M)) (t : Term H M) (k : M) → MakesBy t k → MakesByOne (parts_of (ts ++ t ∷ [])) k
  makes_last [] t k o = inl o
  makes_last (x ∷ ts) t k o = inr (makes_last ts t k o)

  pub occurs_old : (h : H) (j : ℕ) (ts : List (Term H M)) (t : Term H M) → OccursIn h j (parts_of ts) → OccursIn h j (parts_of (ts ++ t ∷ []))
  occurs_old h j [] t o = absurd o
  occurs_old h j (x ∷ ts) t (inl o) = inl o
  occurs_old h j (x ∷ ts) t (inr o) = inr (occurs_old h j ts t o)

  pub occurs_last : (h : H) (j : ℕ) (ts : List (Term H M)) (t : Term H M) → Occurs h j t → OccursIn h j (parts_of (ts ++ t ∷ []))
  occurs_last h j [] t o = inl o
  occurs_last h j (x ∷ ts) t o = inr (occurs_last h j ts t o)

  -- what stands in a part
  pub occurs_part : (h : H) (j : ℕ) (ts : List (Term H M)) (t : Term H M) → Contains ts t → Occurs h j t → OccursIn h j (parts_of ts)
  occurs_part h j [] t c o = absurd (omega (arith, c.1))
  occurs_part h j (x ∷ ts) t (zero, low, e) o = inl (subst (Occurs h j) (sym e) o)
  occurs_part h j (x ∷ ts) t (suc k, low, e) o = inr (occurs_part h j ts t (k, omega (arith, low), e) o)

-- ---- copies

module _ {M : Type 0} (make : M → Label → Label) (D : Label → Type 0) (eq : M → M → Bool) where
  pub record AreTermCopies (ts copies : List (Term Head M)) : Type 0 where
    pub stands : StandFor (λ h k. h ≡ k) D (parts_with_maps make (parts_of copies)) (parts_with_maps make (parts_of ts))
    pub maps : (k : M) → MakesByOne (parts_of copies) k → (i : M) × MakesByOne (parts_of ts) i × (eq i k ≡ true)

  pub copies_none : (copies : List (Term Head M)) → copies ≡ [] → AreTermCopies [] copies
  copies_none copies e = subst (AreTermCopies []) (sym e) (record { stands = tt; maps = λ k o. absurd o })

  pub copies_more : (ts copies ts' next : List (Term Head M)) (t copy : Term Head M) → AreTermCopies ts copies → IsTermCopy make D eq t copy → ts' ≡ ts ++ t ∷ [] → next ≡ copies ++ copy ∷ [] → AreTermCopies ts' next
  copies_more ts copies ts' next t copy h is e e' = subst (λ l. AreTermCopies l next) (sym e) (subst (AreTermCopies (ts ++ t ∷ [])) (sym e') (record {
    stands = stand_push (λ h k. h ≡ k) D make make copies ts copy t h.stands is.stands;
    maps = λ k o. elim (makes_push copies copy k o) [
      | inl old ↦ (let (i, at, same) = h.maps k old in (i, makes_old ts t i at, same))
      | inr new ↦ (let (i, at, same) = is.maps k new in (i, makes_last ts t i at, same))
    ];
  }))

  pub copy_node : (c : ℕ) (m n : M) (ts copies : List (Term Head M)) → ((l : Label) → make n l ≡ make m l) → eq m n ≡ true → AreTermCopies ts copies → IsTermCopy make D eq (build c m (parts_of ts)) (build c n (parts_of copies))
  copy_node c m n ts copies made same h = record {
    stands = (refl, (λ l d. made l), h.stands);
    maps = λ k o. elim o [ inl e ↦ (m, inl refl, subst (λ z. eq m z ≡ true) e same) | inr below ↦ (let (i, at, is) = h.maps k below in (i, inr at, is)) ];
  }

-- ---- terms of ways

pub head_grown : (a b : List Triple) → Extends a b → (h : Head) (x : Triple) → IsHeadOf a h x → IsHeadOf b h x
head_grown a b ext identity x e = e
head_grown a b ext (run q) x at = ext q x at

-- a child as it is has no state
never_unchanged : (one : Called) → unchanged ≡ plain_called one → ⊥
never_unchanged (kind.Through q all h) e = let wrong : identity ≡ run q = ap (λ x. x.first) e in cc
never_unchanged (kind.Own r) e = let wrong : Some identity ≡ Some (run r) = ap (λ x. x.second) e in cc

module _ {M : Type 0} (make : M → Label → Label) (D : Label → Type 0) (eq : M → M → Bool) where
  pub record AreRenamed (old new : List Triple) (zs : List (Term Triple M)) (ts : List (Term Head M)) : Type 0 where
    pub adds : Adds old new (λ x. (d : Triple) × (j : ℕ) × OccursIn d j (parts_of zs) × (tidy d ≡ x) × ¬ (unchanged ≡ x))
    pub stands : StandFor (IsHeadOf new) D (parts_with_maps make (parts_of ts)) (tidy_parts (parts_with_maps make (parts_of zs)))
    pub maps : (k : M) → MakesByOne (parts_of ts) k → (i : M) × MakesByOne (parts_of zs) i × (eq i k ≡ true)

  tidy_push : (R : Head → Triple → Type 0) (ts : List (Term Head M)) (zs : List (Term Triple M)) (t : Term Head M) (z : Term Triple M) → StandFor R D (parts_with_maps make (parts_of ts)) (tidy_parts (parts_with_maps make (parts_of zs))) → StandsFor R D (with_maps make t) (tidy_term (with_maps make z))
      → StandFor R D (parts_with_maps make (parts_of (ts ++ t ∷ []))) (tidy_parts (parts_with_maps make (parts_of (zs ++ z ∷ []))))
  tidy_push R [] [] t z all one = (one, tt)
  tidy_push R [] (y ∷ zs) t z all one = absurd all
  tidy_push R (x ∷ ts) [] t z all one = absurd all
  tidy_push R (x ∷ ts) (y ∷ zs) t z all one = (all.0, tidy_push R ts zs t z all.1 one)

  pub renamed_none : (old : List Triple) (ts : List (Term Head M)) → ts ≡ [] → AreRenamed old old [] ts
  renamed_none old ts e = subst (AreRenamed old old []) (sym e) (record { adds = adds_same old old _ refl; stands = tt; maps = λ k o. absurd o })

  pub renamed_more : (a b c : List Triple) (zs zs' : List (Term Triple M)) (ts next : List (Term Head M)) (z : Term Triple M) (t : Term Head M) → AreRenamed a b zs ts → IsRenamed make D eq b c z t → zs' ≡ zs ++ z ∷ [] → next ≡ ts ++ t ∷ [] → AreRenamed a c zs' next
  renamed_more a b c zs zs' ts next z t h is e e' = subst (λ l. AreRenamed a c l next) (sym e) (subst (AreRenamed a c (zs ++ z ∷ [])) (sym e') (record {
    adds = adds_then a b c _ _ _ h.adds is.adds (λ x w. (w.0, w.1, occurs_old w.0 w.1 zs z w.2, w.3, w.4)) (λ x w. (w.0, w.1, occurs_last w.0 w.1 zs z w.2, w.3, w.4));
    stands = tidy_push (IsHeadOf c) ts zs t z (stand_map (IsHeadOf b) (IsHeadOf c) D (head_grown b c (adds_extends b c _ is.adds)) (parts_with_maps make (parts_of ts)) (tidy_parts (parts_with_maps make (parts_of zs))) h.stands) is.stands;
    maps = λ k o. elim (makes_push ts t k o) [
      | inl old ↦ (let (i, at, same) = h.maps k old in (i, makes_old zs z i at, same))
      | inr new ↦ (let (i, at, same) = is.maps k new in (i, makes_last zs z i at, same))
    ];
  }))

  pub renamed_node : (old new : List Triple) (c : ℕ) (i k : M) (zs : List (Term Triple M)) (ts : List (Term Head M)) → ((l : Label) → make k l ≡ make i l) → eq i k ≡ true → AreRenamed old new zs ts → IsRenamed make D eq old new (build c i (parts_of zs)) (build c k (parts_of ts))
  renamed_node old new c i k zs ts made same h = record {
    adds = adds_wider old new _ _ h.adds (λ x w. w);
    stands = (refl, (λ l d. made l), h.stands);
    maps = λ x o. elim o [ inl e ↦ (i, inl refl, subst (λ z. eq i z ≡ true) e same) | inr below ↦ (let (y, at, is) = h.maps x below in (y, inr at, is)) ];
  }

  -- a call
  pub unchanged_call : (old : List Triple) (x : Triple) (j : ℕ) → unchanged ≡ tidy x → IsRenamed make D eq old old (on x j) (on identity j)
  unchanged_call old x j e = record { adds = adds_same old old _ refl; stands = (e, refl); maps = λ k o. absurd o }

  pub state_call : (old new : List Triple) (x : Triple) (j : ℕ) (one : Called) (k : ℕ) → plain_called one ≡ tidy x → IsNumber old new (plain_called one) k → IsRenamed make D eq old new (on x j) (on (run k) j)
  state_call old new x j one k e is = record {
    adds = adds_wider old new _ _ is.adds (λ y same. (x, j, (refl, refl), sym e ∙ same, λ un. never_unchanged one (un ∙ sym same)));
    stands = (subst (IsAt new k) e is.at, refl);
    maps = λ i o. absurd o;
  }

-- the parts of a node call what the node does
pub calls_part : {M : Type 0} (c : ℕ) (i : M) (zs : List (Term Triple M)) (z : Term Triple M) → CallsOnly (build c i (parts_of zs)) → Contains zs z → CallsOnly z
calls_part c i zs z calls at d j o = calls d j (occurs_part d j zs z at o)

pub own_call : (M : Type 0) (x : Triple) (j : ℕ) → CallsOnly {M = M} (on x j) → IsCall x
own_call M x j calls = calls x j (refl, refl)

-- ---- terms of the second over children as they are

pub own_grown : (a b : List Triple) → Extends a b → (k h : Head) → IsHeadOf a k (on_same h) → IsHeadOf b k (on_same h)
own_grown a b ext k h is = head_grown a b ext k (on_same h) is

module _ {M : Type 0} (make : M → Label → Label) (D : Label → Type 0) (eq : M → M → Bool) where
  pub record AreOwnTerms (old new : List Triple) (ts made : List (Term Head M)) : Type 0 where
    pub adds : Adds old new (λ x. (q : ℕ) × (j : ℕ) × OccursIn (run q) j (parts_of ts) × (on_same (run q) ≡ x))
    pub stands : StandFor (λ k h. IsHeadOf new k (on_same h)) D (parts_with_maps make (parts_of made)) (parts_with_maps make (parts_of ts))
    pub maps : (k : M) → MakesByOne (parts_of made) k → (i : M) × MakesByOne (parts_of ts) i × (eq i k ≡ true)

  pub own_none : (old : List Triple) (made : List (Term Head M)) → made ≡ [] → AreOwnTerms old old [] made
  own_none old made e = subst (AreOwnTerms old old []) (sym e) (record { adds = adds_same old old _ refl; stands = tt; maps = λ k o. absurd o })

  pub own_more : (a b c : List Triple) (ts ts' made next : List (Term Head M)) (t m : Term Head M) → AreOwnTerms a b ts made → IsOwnTerm make D eq b c t m → ts' ≡ ts ++ t ∷ [] → next ≡ made ++ m ∷ [] → AreOwnTerms a c ts' next
  own_more a b c ts ts' made next t m h is e e' = subst (λ l. AreOwnTerms a c l next) (sym e) (subst (AreOwnTerms a c (ts ++ t ∷ [])) (sym e') (record {
    adds = adds_then a b c _ _ _ h.adds is.adds (λ x w. (w.0, w.1, occurs_old (run w.0) w.1 ts t w.2, w.3)) (λ x w. (w.0, w.1, occurs_last (run w.0) w.1 ts t w.2, w.3));
    stands = stand_push (λ k h. IsHeadOf c k (on_same h)) D make make made ts m t
        (stand_map (λ k h. IsHeadOf b k (on_same h)) (λ k h. IsHeadOf c k (on_same h)) D (own_grown b c (adds_extends b c _ is.adds)) (parts_with_maps make (parts_of made)) (parts_with_maps make (parts_of ts)) h.stands) is.stands;
    maps = λ k o. elim (makes_push made m k o) [
      | inl old ↦ (let (i, at, same) = h.maps k old in (i, makes_old ts t i at, same))
      | inr new ↦ (let (i, at, same) = is.maps k new in (i, makes_last ts t i at, same))
    ];
  }))

  pub own_node : (old new : List Triple) (c : ℕ) (i k : M) (ts made : List (Term Head M)) → ((l : Label) → make k l ≡ make i l) → eq i k ≡ true → AreOwnTerms old new ts made → IsOwnTerm make D eq old new (build c i (parts_of ts)) (build c k (parts_of made))
  own_node old new c i k ts made makes same h = record {
    adds = adds_wider old new _ _ h.adds (λ x w. w);
    stands = (refl, (λ l d. makes l), h.stands);
    maps = λ x o. elim o [ inl e ↦ (i, inl refl, subst (λ z. eq i z ≡ true) e same) | inr below ↦ (let (y, at, is) = h.maps x below in (y, inr at, is)) ];
  }

  pub own_same : (old : List Triple) (j : ℕ) → IsOwnTerm make D eq old old (on identity j) (on identity j)
  own_same old j = record { adds = adds_same old old _ refl; stands = (refl, refl); maps = λ k o. absurd o }

  pub own_state : (old new : List Triple) (q j k : ℕ) → IsNumber old new (on_same (run q)) k → IsOwnTerm make D eq old new (on (run q) j) (on (run k) j)
  own_state old new q j k is = record { adds = adds_wider old new _ _ is.adds (λ y same. (q, j, (refl, refl), same)); stands = (is.at, refl); maps = λ i o. absurd o }
