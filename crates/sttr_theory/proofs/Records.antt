-- What is built owes what the operations owe.
use Rattle.std.proofs.Common.{ℕ, ◌≡◌, ◌⊎◌, ◌<◌, ◌↔◌, List, [], ◌∷◌, length, Option, Some, None, sym, subst, ◌∙◌, ap, inl, inr, arith}
use Rattle.model_tree.specs.Tree.{Tree}
use Rattle.model_sta.specs.Automaton.{Rule}
use Rattle.model_sta.specs.Sets.{Fits}
use Rattle.model_sta.specs.Operations.{Auto, Has, HasAll, Alike, OfState}
use Rattle.model_sttr.specs.Terms.{Term, Occurs}
use Rattle.model_sttr.specs.Transducer.{Head, identity, run, OutRule, Sttr, Trans, Gives, GivesSame, IsHead, AllLinear, IsFunctionalOn, SttrFits}
use Rattle.model_sttr.specs.Operations.{HasSource, AlikePairs, OfSources, OfOutputs, OfPairs, IsDomain, IsPreImage, IsOutRestriction, IsComposition, asking}
use Rattle.model_sttr.proofs.Stands.{stands_occurs}
use Rattle.model_sttr.proofs.Heads.{identity_eq, in_range}
use Rattle.sttr_theory.specs.Lists.{IsAt}
use Rattle.sttr_theory.specs.Triples.{Triple, Through, Ends, IsCalled, IsTermFor, LookName, of_first, of_second, middle, Means}
use Rattle.sttr_theory.specs.Built.{IsNamed, IsWayTerm, IsRuleOf, IsBuiltLook, IsBuilt, LookNameFits, TripleFits}
use Rattle.sttr_theory.specs.Results.{AreNames, IsBuiltPreImage, IsBuiltOutRestriction, IsBuiltComposition}
use Rattle.sttr_theory.proofs.Complete.{identity_refl}
use Rattle.sttr_theory.proofs.Places.{at_place}
use Rattle.sttr_theory.proofs.Looks.{look_exact}
use Rattle.sttr_theory.proofs.Built.{out_exact}

module _ {L : Type 0} (Typed : Tree L → Type 0) where
  pub alike_both : (P Q R : Tree L → Type 0) → Alike Typed P Q → Alike Typed Q R → Alike Typed P R
  alike_both P Q R f g t ty = (λ x. (g t ty).0 ((f t ty).0 x), λ x. (f t ty).1 ((g t ty).1 x))

  pub alike_pairs_both : (P Q R : Tree L → Tree L → Type 0) → AlikePairs Typed P Q → AlikePairs Typed Q R → AlikePairs Typed P R
  alike_pairs_both P Q R f g t u ty = (λ x. (g t u ty).0 ((f t u ty).0 x), λ x. (f t u ty).1 ((g t u ty).1 x))

  module _ (f g : Sttr L) where
    -- a language of the lookahead
    abbrev pub IsLookPart : (Tree L → Type 0) → Type 0
    IsLookPart P = OfState Typed f.looks P ⊎ OfSources Typed f g.looks P

    -- what a state accepts by its name
    pub look_part : (x : LookName) → LookNameFits f g x → (P : Tree L → Type 0) → Alike Typed P (Means f g x) → IsLookPart P
    look_part (of_first s) fits P same = inl (s, fits, same)
    look_part (of_second s) fits P same = inr (record {
      head = identity;
      is_head = fits.1;
      all = s ∷ [];
      are = (fits.0, tt);
      same = alike_both P (Has g.looks s) (HasSource f g.looks identity (s ∷ [])) same
          (λ t ty. (λ h. (t, identity_refl f t, (h, tt)), λ x. let (u, e, h) = x in subst (Has g.looks s) (sym (identity_eq f t u e)) h.0));
    })
    look_part (middle q all) fits P same = inr (record { head = run q; is_head = fits.0; all = all; are = fits.1; same = same })

module _ {L : Type 0} (ranks : List ℕ) (D : L → Type 0) where
  module _ (f g : Sttr L) (ok : SttrFits f ranks) (names : List LookName) (looks : List (List (Rule L))) (built : IsBuiltLook ranks D f g names looks) (fit : AreNames (LookNameFits f g) names) where
    pub each_look : (q : ℕ) → q < length looks → IsLookPart (Fits ranks D) f g (Has looks q)
    each_look q lt =
        let (x, at) = at_place names q (subst (λ n. q < n) built.as_many lt) in
        look_part (Fits ranks D) f g x (fit q x at) (Has looks q) (λ t ty. look_exact ranks D f g names looks ok built t ty q x at)

  module _ (f : Trans L) (ok : SttrFits f.sttr ranks) where
    pub preimage_owed : (a : Auto L) (names : List LookName) (c : Auto L) → IsBuiltPreImage ranks D f a.rules (a.start ∷ []) names c → IsPreImage (Fits ranks D) f a c
    preimage_owed a names c b = record {
      in_range = subst (λ n. c.start < n) (sym b.built.as_many) b.start.0;
      means = λ t ty. let both = look_exact ranks D f.sttr (asking a.rules) names c.rules ok b.built t ty c.start (middle f.start (a.start ∷ [])) b.start in
          (λ h. let (u, gives, has) = both.0 h in (u, gives, has.0), λ x. let (u, gives, has) = x in both.1 (u, gives, (has, tt)));
      each_state = λ q lt. inr (each_look f.sttr (asking a.rules) ok names c.rules b.built b.fit q lt);
    }

    pub domain_owed : (names : List LookName) (c : Auto L) → IsBuiltPreImage ranks D f [] [] names c → IsDomain (Fits ranks D) f c
    domain_owed names c b = record {
      in_range = subst (λ n. c.start < n) (sym b.built.as_many) b.start.0;
      means = λ t ty. let both = look_exact ranks D f.sttr (asking []) names c.rules ok b.built t ty c.start (middle f.start []) b.start in
          (λ h. let (u, gives, has) = both.0 h in (u, gives), λ x. let (u, gives) = x in both.1 (u, gives, tt));
      each_state = λ q lt. inr (each_look f.sttr (asking []) ok names c.rules b.built b.fit q lt);
    }

  module _ (f g : Sttr L) (Second : Head → Type 0) where
    -- a rule of a head gives a child unchanged only where a rule of f does
    rule_same : (h : Head) → IsHead f h → (ρ : OutRule L) → IsRuleOf ranks D f g h ρ → (j : ℕ) → Occurs identity j ρ.term → GivesSame f
    rule_same identity is ρ rule j o = is
    rule_same (run q) is ρ here j o = (q, ρ, here, j, o)

    named_same : (x : Triple) → TripleFits f g Second x → (ρ : OutRule L) → IsRuleOf ranks D f g x.first ρ → (k : Triple) (j : ℕ) → record { first = identity; all = []; second = Some identity } ≡ k → IsCalled f g ρ.term x k j → GivesSame f × (Second identity ⊎ GivesSame g)
    named_same x fits ρ rule k j e called =
        let o : Occurs identity j ρ.term = subst (λ h. Occurs h j ρ.term) (sym (ap (λ y. y.first) e)) called.0.0 in
        let is : Some identity ≡ Some called.1 = ap (λ y. y.second) e ∙ called.2 in
        (rule_same x.first fits.is_first ρ rule j o, second called.1 (unwrap identity called.1 is) called.3)
      where
        unwrap : (a b : Head) → Some a ≡ Some b → a ≡ b
        unwrap a b e = cc

        second : (h : Head) → identity ≡ h → (x.second ≡ Some h) ⊎ IsHead g h → Second identity ⊎ GivesSame g
        second h e (inl own) = inl (subst Second (unwrap fits.second h (sym fits.has_second ∙ own) ∙ sym e) fits.is_second)
        second h e (inr head) = inr (subst (IsHead g) (sym e) head)

    term_same : (names : List Triple) (x : Triple) → TripleFits f g Second x → (ρ : OutRule L) → IsRuleOf ranks D f g x.first ρ → (p : Term Head (L → L)) (y : Option (Term Triple (L → L))) → IsTermFor f g ρ.term x y → IsWayTerm ranks D f g names p y
        → (j : ℕ) → Occurs identity j p → GivesSame f × (Second identity ⊎ GivesSame g)
    term_same names x fits ρ rule p None is stands j o = absurd stands
    term_same names x fits ρ rule p (Some z) is stands j o =
        let (k, named, there) = stands_occurs (IsNamed ranks D f g names) D identity j p z stands o in
        named_same x fits ρ rule k j named (is.1 k j there)

    pub built_same : (looks : List LookName) (names : List Triple) (c : Sttr L) → IsBuilt ranks D f g looks names c → AreNames (TripleFits f g Second) names → GivesSame c → GivesSame f × (Second identity ⊎ GivesSame g)
    built_same looks names c built fit gives =
        let (q, r, here, j, o) = gives in
        let (x, at) = at_place names q (subst (λ n. q < n) built.as_many (in_range c.rules q r here)) in
        let (ρ, rule, ys, ways, y, mine, (made, stands)) = (built.each q x at).only r here in
        term_same names x (fit q x at) ρ rule r.term y.term (ways.fit y mine).term stands j o

  -- the relation of a triple with this second part
  pub through_out : (f g : Sttr L) (x : Triple) (k : Head) → x.second ≡ Some k → (t w : Tree L) → Through f g x t w ↔ ((u : Tree L) × Gives f x.first t u × HasAll g.looks x.all u × Gives g k u w)
  through_out f g x k e t w = (
    λ m. let (u, gives, has, end) = m in (u, gives, has, subst (λ s. Ends f g s u w) e end),
    λ m. let (u, gives, has, end) = m in (u, gives, has, subst (λ s. Ends f g s u w) (sym e) end),
  )

  -- no rules, no rule that uses a child twice
  pub asking_linear : (rules : List (List (Rule L))) → AllLinear (asking rules)
  asking_linear rules q r (k, lt, e) = absurd (omega arith)

  asking_same : (rules : List (List (Rule L))) → GivesSame (asking rules) → ⊥
  asking_same rules (q, r, (k, lt, e), j, o) = absurd (omega arith)

  module _ (f : Trans L) (ok : SttrFits f.sttr ranks) where
    pub out_restriction_owed : (a : Auto L) (looks : List LookName) (names : List Triple) (c : Trans L) → IsBuiltOutRestriction ranks D f a looks names c → IsOutRestriction (Fits ranks D) f a c
    out_restriction_owed a looks names c b = record {
      in_range = subst (λ n. c.start < n) (sym b.built.as_many) b.start.0;
      means = λ t w ty. let both = exact t ty c.start (record { first = run f.start; all = a.start ∷ []; second = Some identity }) b.start w in (
        λ h. let (u, gives, has, end) = both.0 h in let e = identity_eq (asking a.rules) u w end in (subst (Gives f.sttr (run f.start) t) e gives, subst (Has a.rules a.start) e has.0),
        λ x. both.1 (w, x.0, (x.1, tt), identity_refl (asking a.rules) w),
      );
      each_state = λ q lt. inr (state q lt);
      each_look = λ q lt. each_look f.sttr (asking a.rules) ok looks c.sttr.looks b.built.look b.looks_fit q lt;
      gives_same = λ g. (built_same f.sttr (asking a.rules) (λ h. h ≡ identity) looks names c.sttr b.built b.fit g).0;
    }
      where
        exact : (t : Tree L) → Fits ranks D t → (q : ℕ) (x : Triple) → IsAt names q x → (w : Tree L) → Gives c.sttr (run q) t w ↔ Through f.sttr (asking a.rules) x t w
        exact = out_exact ranks D f.sttr (asking a.rules) looks names c.sttr ok (inr (asking_linear a.rules)) b.built

        state : (q : ℕ) → q < length c.sttr.rules → OfOutputs (Fits ranks D) f.sttr a.rules (Gives c.sttr (run q))
        state q lt =
            let (x, at) = at_place names q (subst (λ n. q < n) b.built.as_many lt) in
            let fits = b.fit q x at in
            record {
              head = x.first;
              is_head = fits.is_first;
              all = x.all;
              are = fits.are;
              same = alike_pairs_both (Fits ranks D) (Gives c.sttr (run q)) (Through f.sttr (asking a.rules) x) (λ t u. Gives f.sttr x.first t u × HasAll a.rules x.all u) (λ t w ty. exact t ty q x at w)
                  (λ t w ty. let both = through_out f.sttr (asking a.rules) x identity (fits.has_second ∙ ap Some fits.is_second) t w in (
                    λ m. let (u, gives, has, end) = both.0 m in let e = identity_eq (asking a.rules) u w end in (subst (Gives f.sttr x.first t) e gives, subst (HasAll a.rules x.all) e has),
                    λ m. both.1 (w, m.0, m.1, identity_refl (asking a.rules) w),
                  ));
            }

    pub composition_owed : (g : Trans L) (looks : List LookName) (names : List Triple) (c : Trans L) → IsFunctionalOn f.sttr (Fits ranks D) ⊎ AllLinear g.sttr → IsBuiltComposition ranks D f g looks names c → IsComposition (Fits ranks D) f g c
    composition_owed g looks names c can b = record {
      in_range = subst (λ n. c.start < n) (sym b.built.as_many) b.start.0;
      means = λ t w ty. let both = exact t ty c.start (record { first = run f.start; all = []; second = Some (run g.start) }) b.start w in
          (λ h. let (u, gives, has, end) = both.0 h in (u, gives, end), λ x. let (u, gives, end) = x in both.1 (u, gives, tt, end));
      each_state = λ q lt. inr (state q lt);
      each_look = λ q lt. each_look f.sttr g.sttr ok looks c.sttr.looks b.built.look b.looks_fit q lt;
      gives_same = λ s. let (first, second) = built_same f.sttr g.sttr (IsHead g.sttr) looks names c.sttr b.built b.fit s in (first, either second);
    }
      where
        either : GivesSame g.sttr ⊎ GivesSame g.sttr → GivesSame g.sttr
        either (inl x) = x
        either (inr x) = x

        exact : (t : Tree L) → Fits ranks D t → (q : ℕ) (x : Triple) → IsAt names q x → (w : Tree L) → Gives c.sttr (run q) t w ↔ Through f.sttr g.sttr x t w
        exact = out_exact ranks D f.sttr g.sttr looks names c.sttr ok can b.built

        state : (q : ℕ) → q < length c.sttr.rules → OfPairs (Fits ranks D) f.sttr g.sttr (Gives c.sttr (run q))
        state q lt =
            let (x, at) = at_place names q (subst (λ n. q < n) b.built.as_many lt) in
            let fits = b.fit q x at in
            record {
              first = x.first;
              is_first = fits.is_first;
              second = fits.second;
              is_second = fits.is_second;
              all = x.all;
              are = fits.are;
              same = alike_pairs_both (Fits ranks D) (Gives c.sttr (run q)) (Through f.sttr g.sttr x) (λ t w. (u : Tree L) × Gives f.sttr x.first t u × HasAll g.sttr.looks x.all u × Gives g.sttr fits.second u w) (λ t w ty. exact t ty q x at w)
                  (λ t w ty. through_out f.sttr g.sttr x fits.second fits.has_second t w);
            }
