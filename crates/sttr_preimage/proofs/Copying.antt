-- Rules that are copied with their states by other numbers.
use Rattle.std.proofs.Common.{Bool, ℕ, zero, suc, ◌+◌, ◌≡◌, ◌<◌, inl, inr, List, [], ◌∷◌, ◌++◌, map, take, length, get_or, Contains, refl, sym, ap, subst, ◌∙◌, arith}
use Rattle.std.proofs.lemmas.List.{map-append, length-map, length-append, take_more, get_or_past}
use Rattle.std.proofs.lemmas.Bool.{cases_lt}
use Rattle.sta_core.specs.Machine.{PlainRule}
use Rattle.sttr_theory.specs.Lists.{IsAt, Extends, Match}
use Rattle.sttr_theory.specs.Triples.{LookName}
use Rattle.sttr_theory.specs.Covers.{Covers}
use Rattle.sttr_theory.proofs.Covers.{covers_none, covers_more, covers_skip, covers_weaker}
use Rattle.sttr_preimage.specs.Apart.{AreApart}
use Rattle.model_tree.specs.Label.{Label}
use Rattle.sttr_theory.proofs.Grow.{push_before, push_at}
use Rattle.sttr_preimage.specs.declared.names.Side.{Side}
use Rattle.sttr_preimage.specs.declared.names.Side.TheVariants as side
use Rattle.sttr_preimage.specs.Names.{side_names, Numbers}
use Rattle.sttr_preimage.specs.Rules.{AreNumbered, IsMadeOf, demands_of, IsCopied, AreCopied, IsWayMade, AreWayMade, way_demands, both_of}
use Rattle.sttr_run.specs.declared.triples.Way.{Way}
use Rattle.label_core.specs.Formula.{plain_formula}
use Rattle.sttr_preimage.proofs.Numbered.{adds_then, adds_wider, adds_same, adds_extends, match_none, match_both, match_one}
use Rattle.sttr_theory.proofs.Members.{here, in_left, in_right}
use Rattle.sttr_theory.proofs.Matches.{match_map}

pub numbered_none : (old new : List LookName) (wanted : ℕ → List LookName) (made : List (List ℕ)) → new ≡ old → made ≡ [] → AreNumbered old new 0 wanted made
numbered_none old new wanted made e f = record { adds = adds_same old new _ e; count = ap length f; each = λ j low. absurd (omega (arith, low)) }

-- one more child
pub numbered_more : (a b c : List LookName) (i : ℕ) (wanted : ℕ → List LookName) (made next : List (List ℕ)) (d : List ℕ) → AreNumbered a b i wanted made → Numbers b c [] d (wanted i) → next ≡ made ++ d ∷ [] → AreNumbered a c (i + 1) wanted next
numbered_more a b c i wanted made next d h n e = record {
  adds = adds_then a b c _ _ _ h.adds n.adds (λ x w. (w.0, omega (arith, w.1), w.2)) (λ x at. (i, omega arith, at));
  count = let m = ap length e ∙ length-append made (d ∷ []) in omega (arith, m, h.count);
  each = λ j low. elim (cases_lt j i) [
    | inl before ↦ subst (λ z. Match (IsAt c) (get_or z j []) (wanted j)) (sym e)
        (subst (λ z. Match (IsAt c) z (wanted j)) (sym (push_before made d j (omega (arith, before, h.count))))
        (match_map (IsAt b) (IsAt c) (adds_extends b c _ n.adds) (get_or made j []) (wanted j) (h.each j before)))
    | inr past ↦ (
        let is : i ≡ j = omega (arith, past, low) in
        let at : get_or next j [] ≡ n.added = ap (λ z. get_or z j []) e ∙ ap (λ k. get_or (made ++ d ∷ []) k []) (sym is ∙ sym h.count) ∙ push_at made d ∙ n.behind in
        subst (λ z. Match (IsAt c) z (wanted j)) (sym at) (subst (λ k. Match (IsAt c) n.added (wanted k)) is n.named))
  ];
}

-- the same of as many, and of the same
pub numbered_as : (a c : List LookName) (n m : ℕ) (V W : ℕ → List LookName) (made : List (List ℕ)) → n ≡ m → ((j : ℕ) → V j ≡ W j) → AreNumbered a c n V made → AreNumbered a c m W made
numbered_as a c n m V W made e f h = subst (λ k. AreNumbered a c k W made) e (record {
  adds = adds_wider a c _ _ h.adds (λ x w. (w.0, w.1, subst (λ l. Contains l x) (f w.0) w.2));
  count = h.count;
  each = λ j low. subst (Match (IsAt c) (get_or made j [])) (f j) (h.each j low);
})

-- ---- copies of rules

module _ {A : Type 0} (of : Side) where
  pub made_is_copied : (a c : List LookName) (r made : PlainRule A) → IsMadeOf a c r r.guard (demands_of of r) made → IsCopied c of made r
  made_is_copied a c r made h = record {
    constructor = h.constructor;
    guard = h.guarded;
    count = h.demands.count;
    each = λ j. elim (cases_lt j (length r.demands)) [
      | inl low ↦ h.demands.each j low
      | inr past ↦ subst (λ z. Match (IsAt c) z (demands_of of r j)) (sym (get_or_past made.demands j [] (omega (arith, past, h.demands.count))))
          (subst (λ z. Match (IsAt c) [] (side_names of z)) (sym (get_or_past r.demands j [] past)) (none of))
    ];
  }
    where
      none : (s : Side) → Match (IsAt c) [] (side_names s [])
      none side.First = match_none (IsAt c)
      none side.Second = match_none (IsAt c)

  pub copied_grown : (a b : List LookName) → Extends a b → (made r : PlainRule A) → IsCopied a of made r → IsCopied b of made r
  copied_grown a b ext made r h = record { constructor = h.constructor; guard = h.guard; count = h.count; each = λ j. match_map (IsAt a) (IsAt b) ext (get_or made.demands j []) (demands_of of r j) (h.each j) }

  pub copied_none : (old new : List LookName) (made : List (PlainRule A)) → new ≡ old → made ≡ [] → AreCopied old new of [] made
  copied_none old new made e f = record { adds = adds_same old new _ e; copied = subst (λ l. Match (IsCopied new of) l []) (sym f) (match_none (IsCopied new of)) }

  -- one more rule
  pub copied_more : (a b c : List LookName) (rules made next more : List (PlainRule A)) (r m : PlainRule A) → AreCopied a b of rules made → IsMadeOf b c r r.guard (demands_of of r) m → more ≡ rules ++ r ∷ [] → next ≡ made ++ m ∷ [] → AreCopied a c of more next
  copied_more a b c rules made next more r m h is e f = subst (λ l. AreCopied a c of l next) (sym e) (subst (AreCopied a c of (rules ++ r ∷ [])) (sym f) (record {
    adds = adds_then a b c _ _ _ h.adds is.demands.adds (λ x w. (w.0, in_left rules (r ∷ []) w.0 w.1, w.2, w.3)) (λ x w. (r, in_right rules (r ∷ []) r (here r []), w.0, w.2));
    copied = match_both (IsCopied c of) made (m ∷ []) rules (r ∷ []) (match_map (IsCopied b of) (IsCopied c of) (copied_grown b c (adds_extends b c _ is.demands.adds)) made rules h.copied)
        (match_one (IsCopied c of) m r (made_is_copied b c r m is));
  }))

-- ---- at a place of a list that is mapped

pub at_mapped : {X Y : Type 0} (f : X → Y) (xs : List X) (i : ℕ) (x : X) (d : Y) → i < length xs → x ≡ get_or xs i x → get_or (map f xs) i d ≡ f x
at_mapped f [] i x d low is = absurd (omega (arith, low))
at_mapped f (z ∷ xs) zero x d low is = ap f (sym is)
at_mapped f (z ∷ xs) (suc i) x d low is = at_mapped f xs i x d (omega (arith, low)) is

pub push_mapped : {X Y : Type 0} (f : X → Y) (old new : List X) (x : X) → new ≡ old ++ x ∷ [] → map f new ≡ map f old ++ f x ∷ []
push_mapped f old new x e = ap (map f) e ∙ map-append f old (x ∷ [])

pub take_mapped : {X Y : Type 0} (f : X → Y) (xs : List X) (i : ℕ) (x : X) → i < length xs → x ≡ get_or xs i x → map f (take (i + 1) xs) ≡ map f (take i xs) ++ f x ∷ []
take_mapped f xs i x low is = ap (map f) (take_more xs i x low ∙ ap (λ z. take i xs ++ z ∷ []) (sym is)) ∙ map-append f (take i xs) (x ∷ [])

-- ---- rules of ways

module _ {A M : Type 0} where
  pub made_is_way : (a c : List LookName) (r made : PlainRule A) (y : Way A M) → IsMadeOf a c r (both_of r.guard (plain_formula y.guard)) (way_demands r y.demands.items) made → IsWayMade c r made y
  made_is_way a c r made y h = record { constructor = h.constructor; guard = h.guarded; count = h.demands.count; each = h.demands.each }

  pub way_wider : (a b : List LookName) → Extends a b → (r made : PlainRule A) (y : Way A M) → IsWayMade a r made y → IsWayMade b r made y
  way_wider a b ext r made y h = record { constructor = h.constructor; guard = h.guard; count = h.count; each = λ j low. match_map (IsAt a) (IsAt b) ext (get_or made.demands j []) (way_demands r y.demands.items j) (h.each j low) }

  module _ (holds : A → Label → Bool) (D : Label → Type 0) where
    abbrev Apart : PlainRule A → Way A M → Type 0
    Apart r y = AreApart holds D r.guard (plain_formula y.guard)

    pub ways_none : (names : List LookName) (r : PlainRule A) (made : List (PlainRule A)) → made ≡ [] → AreWayMade {M = M} holds D names names r [] made
    ways_none names r made e = record { adds = adds_same names names _ refl; rules = subst (λ l. Covers (IsWayMade {A = A} {M = M} names r) (Apart r) l []) (sym e) (covers_none (IsWayMade names r) (Apart r)) }

    -- one more way
    pub ways_more : (a b c : List LookName) (r : PlainRule A) (ys : List (Way A M)) (i : ℕ) (y : Way A M) (made next : List (PlainRule A)) (m : PlainRule A) → AreWayMade holds D a b r (take i ys) made → IsMadeOf b c r (both_of r.guard (plain_formula y.guard)) (way_demands r y.demands.items) m
        → i < length ys → y ≡ get_or ys i y → next ≡ made ++ m ∷ [] → AreWayMade holds D a c r (take (i + 1) ys) next
    ways_more a b c r ys i y made next m h is low at e =
        subst (λ l. AreWayMade holds D a c r l next) (sym (take_more ys i y low ∙ ap (λ z. take i ys ++ z ∷ []) (sym at))) (subst (AreWayMade holds D a c r (take i ys ++ y ∷ [])) (sym e) (record {
          adds = adds_then a b c _ _ _ h.adds is.demands.adds (λ x w. (w.0, in_left (take i ys) (y ∷ []) w.0 w.1, w.2, w.3, w.4)) (λ x w. (y, in_right (take i ys) (y ∷ []) y (here y []), w.0, w.1, w.2));
          rules = covers_more (IsWayMade c r) (Apart r) made (take i ys) m y (covers_weaker (IsWayMade b r) (IsWayMade c r) (Apart r) (Apart r) (way_wider b c (adds_extends b c _ is.demands.adds) r) (λ z out. out) made (take i ys) h.rules) (made_is_way b c r m y is);
        }))

    -- one more that applies nowhere
    pub ways_skip : (a b : List LookName) (r : PlainRule A) (ys : List (Way A M)) (i : ℕ) (y : Way A M) (made : List (PlainRule A)) → AreWayMade holds D a b r (take i ys) made → Apart r y → i < length ys → y ≡ get_or ys i y → AreWayMade holds D a b r (take (i + 1) ys) made
    ways_skip a b r ys i y made h out low at =
        subst (λ l. AreWayMade holds D a b r l made) (sym (take_more ys i y low ∙ ap (λ z. take i ys ++ z ∷ []) (sym at))) (record {
          adds = adds_wider a b _ _ h.adds (λ x w. (w.0, in_left (take i ys) (y ∷ []) w.0 w.1, w.2, w.3, w.4));
          rules = covers_skip (IsWayMade b r) (Apart r) made (take i ys) y h.rules out;
        })

pub item_in : {X Y : Type 0} (f : X → Y) (held xs : List X) (i : ℕ) (x : X) → held ≡ xs → i < length held → x ≡ get_or held i x → Contains (map f xs) (f x)
item_in f held xs i x e low is = subst (λ l. Contains (map f l) (f x)) e (i, subst (λ n. i < n) (sym (length-map held f)) low, at_mapped f held i x (f x) low is)

pub item_of : {X : Type 0} (xs : List X) (i : ℕ) (x : X) → i < length xs → x ≡ get_or xs i x → Contains xs x
item_of xs i x low is = (i, low, sym is)
