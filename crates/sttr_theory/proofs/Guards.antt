-- Guards and maps of what is built.
use Rattle.std.specs.Prelude.{⊤}
use Rattle.std.proofs.Common.{ℕ, ◌≡◌, ◌⊎◌, ◌<◌, ◌&&◌, Bool, List, [], ◌∷◌, ◌++◌, get_or, length, Option, Some, None, Contains, refl, sym, subst, ◌∙◌, inl, inr, arith}
use Rattle.model_sta.specs.Automaton.{Rule, rules_of}
use Rattle.model_sta.specs.Operations.{AgreeIn, Auto}
use Rattle.model_sttr.specs.Terms.{Term, on, build}
use Rattle.model_sttr.specs.Transducer.{Head, identity, run, OutRule, Sttr, Trans, out_rules, GivesSame, IsHead}
use Rattle.model_sttr.specs.Guards.{MakesBy, AgreeOn, IsMapOf, AgreeBehind, MakesAlike}
use Rattle.model_sttr.specs.Operations.{asking, DomainKeepsGuards, KeepsMaps, ChainsMaps}
use Rattle.model_sttr.proofs.Stands.{stands_makes}
use Rattle.model_sttr.proofs.Heads.{in_range}
use Rattle.sttr_theory.specs.Guards.{MakesBelow, MakesIn, AgreeMade, IsChainOver}
use Rattle.sttr_theory.specs.Triples.{Triple, Way, LookName, of_first, of_second, middle, firsts, seconds, asked}
use Rattle.sttr_theory.specs.Built.{copying, IsRuleOf, IsMadeRule, IsWayRule, IsNamed, IsWayTerm, AreLookRules, IsBuiltLook, LookNameFits}
use Rattle.sttr_theory.specs.Results.{AreNames, OfEither, IsOldHead, IsBuiltPreImage, IsBuiltTrans, IsBuiltOutRestriction, IsBuiltComposition, IsBuiltRestriction}
use Rattle.sttr_theory.proofs.Kept.{kept_makes}
use Rattle.sttr_theory.proofs.Places.{at_place, last_or_before}

module _ {L : Type 0} (ranks : List ℕ) (D : L → Type 0) (f g : Sttr L) where
  -- the guard of a made rule is the same where the guard that it was made by is
  pub made_same : (names : List LookName) (r : Rule L) (c : ℕ) (guard : L → Bool) (W : ℕ → List LookName) → IsMadeRule ranks D f g names r c guard W → (l m : L) → D l → D m → guard l ≡ guard m → r.guard l ≡ r.guard m
  made_same names r c guard W is l m dl dm e = is.same_guard l dl ∙ e ∙ sym (is.same_guard m dm)

  module _ (l m : L) (dl : D l) (dm : D m) (agree : AgreeBehind f g l m) where
    rule_same : (h : Head) (ρ : OutRule L) → IsRuleOf ranks D f g h ρ → ρ.rule.guard l ≡ ρ.rule.guard m
    rule_same identity ρ rule = let (c, lt, e) = rule in subst (λ r. r.rule.guard l ≡ r.rule.guard m) (sym e) refl
    rule_same (run q) ρ here = agree.first.rules q ρ here

    rule_made : (h : Head) → IsHead f h → (ρ : OutRule L) → IsRuleOf ranks D f g h ρ → AgreeMade g ρ.term l m
    rule_made identity is ρ rule n o = let (c, lt, e) = rule in copied c _ n (subst (λ r. MakesBy r.term n) e o)
      where
        copied : (c k : ℕ) (n : L → L) → MakesBy (copying {L = L} c k).term n → AgreeOn g (n l) (n m)
        copied c k n (inl e) = subst (λ i. AgreeOn g (i l) (i m)) e (agree.unchanged is)
        copied c k n (inr o) = absurd (kept_makes (L → L) 0 k n o)
    rule_made (run q) is ρ here n o = agree.made n (q, ρ, here, o)

    way_same : (names : List LookName) (r : Rule L) (h : Head) → IsHead f h → (ρ : OutRule L) → IsRuleOf ranks D f g h ρ → (y : Way L) → IsWayRule ranks D f g names r ρ y → (AgreeMade g ρ.term l m → y.guard l ≡ y.guard m) → r.guard l ≡ r.guard m
    way_same names r h is ρ rule y made guards =
        let gρ = rule_same h ρ rule in
        let gy = guards (rule_made h is ρ rule) in
        made_same names r ρ.rule.constructor (λ l. ρ.rule.guard l && y.guard l) (λ j. firsts (get_or ρ.rule.demands j []) ++ asked (get_or y.demands j [])) made l m dl dm (λ i. gρ i && gy i)

    look_same : (names : List LookName) (x : LookName) → LookNameFits f g x → (rs : List (Rule L)) → AreLookRules ranks D f g names rs x → (r : Rule L) → Contains rs r → r.guard l ≡ r.guard m
    look_same names (of_first s) fits rs are r here =
        let (ρ, mine, made) = are.0 r here in
        made_same names r ρ.constructor ρ.guard (λ j. firsts (get_or ρ.demands j [])) made l m dl dm (agree.first.looks s ρ mine)
    look_same names (of_second s) fits rs are r here =
        let (ρ, mine, made) = are.0 r here in
        made_same names r ρ.constructor ρ.guard (λ j. seconds (get_or ρ.demands j [])) made l m dl dm ((agree.unchanged fits.1).looks s ρ mine)
    look_same names (middle q all) fits rs are r here =
        let (ρ, rule, ys, ways, y, mine, made) = are.only r here in
        way_same names r (run q) fits.0 ρ rule y made (λ a. ways.guards y mine l m dl dm a)

    pub looks_agree : (names : List LookName) (looks : List (List (Rule L))) → IsBuiltLook ranks D f g names looks → AreNames (LookNameFits f g) names → AgreeIn looks l m
    looks_agree names looks built fit q r here =
        let (x, at) = at_place names q (subst (λ n. q < n) built.as_many (in_range looks q r here)) in
        look_same names x (fit q x at) (rules_of looks q) (built.each q x at) r here

    pub built_agrees : (Second : Head → Type 0) (x : Triple) (looks : List LookName) (names : List Triple) (c : Trans L) → IsBuiltTrans ranks D f g Second x looks names c → AgreeOn c.sttr l m
    built_agrees Second start looks names c b = record {
      looks = looks_agree looks c.sttr.looks b.built.look b.looks_fit;
      rules = λ q r here. let (x, at) = at_place names q (subst (λ n. q < n) b.built.as_many (in_range c.sttr.rules q r here)) in
          let (ρ, rule, ys, ways, y, mine, (made, stands)) = (b.built.each q x at).only r here in
          way_same looks r.rule x.first (b.fit q x at).is_first ρ rule y made (λ a. ways.guards y mine l m dl dm a);
    }

  -- ---- maps

  below_by : (p : Term Head (L → L)) (m : L → L) → MakesBelow p m → MakesBy p m
  below_by (on h j) m o = absurd o
  below_by (build c n ps) m o = inr o

  alike_twice : (n m k : L → L) → MakesAlike D n m → MakesAlike D m k → MakesAlike D n k
  alike_twice n m k a b l d = a l d ∙ b l d

  some_same : (k : Head) → Some k ≡ Some identity → k ≡ identity
  some_same k e = cc

  module _ (S : Type 0) (same_is : GivesSame g → S) where
    -- as IsChain, where a map of f is left as it is only where S
    abbrev pub ChainIf : (L → L) → Type 0
    ChainIf n =
        ((m : L → L) × IsMapOf f m × (k : L → L) × IsMapOf g k × MakesAlike D n (λ l. k (m l)))
        ⊎ (S × (m : L → L) × IsMapOf f m × MakesAlike D n m)
        ⊎ (GivesSame f × (k : L → L) × IsMapOf g k × MakesAlike D n k)

    chain_of : (h : Head) → IsHead f h → (k : Option Head) → (k ≡ Some identity → S) → (h ≡ identity → ¬ (k ≡ Some identity)) → (ρ : OutRule L) → IsRuleOf ranks D f g h ρ → (n m : L → L) → MakesAlike D n m → IsChainOver D g ρ.term k m → ChainIf n
    chain_of identity is k may moves ρ rule n m a chain = let (c, lt, e) = rule in copied c _ (subst (λ r. IsChainOver D g r.term k m) e chain)
      where
        third : (c j : ℕ) (m' k' : L → L) → MakesBy (copying {L = L} c j).term m' → IsMapOf g k' → MakesAlike D m (λ l. k' (m' l)) → ChainIf n
        third c j m' k' (inl e) is' alike = inr (inr (is, k', is', alike_twice n m k' a (subst (λ i. MakesAlike D m (λ l. k' (i l))) (sym e) alike)))
        third c j m' k' (inr o) is' alike = absurd (kept_makes (L → L) 0 j m' o)

        copied : (c j : ℕ) → IsChainOver D g (copying {L = L} c j).term k m → ChainIf n
        copied c j (inl (m', o, k', is', alike)) = third c j m' k' o is' alike
        copied c j (inr (m', inl (keeps, o), alike)) = absurd (moves refl keeps)
        copied c j (inr (m', inr (same, o), alike)) = absurd (kept_makes (L → L) 0 j m' o)
    chain_of (run q) is k may moves ρ here n m a (inl (m', o, k', is', alike)) = inl (m', (q, ρ, here, o), k', is', λ l d. a l d ∙ alike l d)
    chain_of (run q) is k may moves ρ here n m a (inr (m', inl (keeps, o), alike)) = inr (inl (may keeps, m', (q, ρ, here, o), alike_twice n m m' a alike))
    chain_of (run q) is k may moves ρ here n m a (inr (m', inr (same, o), alike)) = inr (inl (same_is same, m', (q, ρ, here, below_by ρ.term m' o), alike_twice n m m' a alike))

    term_chain : (names : List Triple) (x : Triple) → IsHead f x.first → (x.second ≡ Some identity → S) → (x.first ≡ identity → ¬ (x.second ≡ Some identity)) → (ρ : OutRule L) → IsRuleOf ranks D f g x.first ρ → (p : Term Head (L → L)) (y : Option (Term Triple (L → L))) → IsWayTerm ranks D f g names p y
        → ((n : L → L) → MakesIn y n → IsChainOver D g ρ.term x.second n) → (n : L → L) → MakesBy p n → ChainIf n
    term_chain names x is may moves ρ rule p None stands maps n o = absurd stands
    term_chain names x is may moves ρ rule p (Some z) stands maps n o =
        let (m, there, alike) = stands_makes (IsNamed ranks D f g names) D p z stands n o in
        chain_of x.first is x.second may moves ρ rule n m alike (maps m there)

    pub built_maps : (Second : Head → Type 0) → (Second identity → S) → (start : Triple) (looks : List LookName) (names : List Triple) (c : Trans L) → IsBuiltTrans ranks D f g Second start looks names c → (n : L → L) → IsMapOf c.sttr n → ChainIf n
    built_maps Second keeps start looks names c b n map_of =
        let (q, r, here, o) = map_of in
        let (x, at) = at_place names q (subst (λ n. q < n) b.built.as_many (in_range c.sttr.rules q r here)) in
        let fits = b.fit q x at in
        let (ρ, rule, ys, ways, y, mine, (made, stands)) = (b.built.each q x at).only r here in
        term_chain names x fits.is_first (λ i. keeps (subst Second (some_same fits.second (sym fits.has_second ∙ i)) fits.is_second)) (λ e i. fits.no_copy e (some_same fits.second (sym fits.has_second ∙ i))) ρ rule r.term y.term stands (λ n' o'. ways.maps y mine n' o') n o

-- ---- what the operations owe

module _ {L : Type 0} (ranks : List ℕ) (D : L → Type 0) (f : Trans L) where
  -- without rules there are no maps
  no_map : (rules : List (List (Rule L))) (n : L → L) → IsMapOf (asking rules) n → ⊥
  no_map rules n (q, r, here, o) = let lt = in_range (asking rules).rules q r here in absurd (omega (arith, lt))

  -- where nothing is asked of outputs, labels are tested as they are alone
  pub asks_nothing : (l m : L) → AgreeOn f.sttr l m → AgreeBehind f.sttr (asking []) l m
  asks_nothing l m agree = record { first = agree; made = λ n is. nothing (n l) (n m); unchanged = λ same. nothing l m }
    where
      nothing : (l m : L) → AgreeOn {L = L} (asking []) l m
      nothing l m = record { looks = λ q r here. absurd (none q r here); rules = λ q r here. absurd (no_rule q r here) }
        where
          none : (q : ℕ) (r : Rule L) → Contains (rules_of [] q) r → ⊥
          none q r here = let lt = in_range [] q r here in absurd (omega (arith, lt))

          no_rule : (q : ℕ) (r : OutRule L) → Contains (get_or [] q []) r → ⊥
          no_rule q r here = let lt = in_range [] q r here in absurd (omega (arith, lt))

  pub preimage_guards : (rules : List (List (Rule L))) (all : List ℕ) (names : List LookName) (c : Auto L) → IsBuiltPreImage ranks D f rules all names c → (l m : L) → D l → D m → AgreeBehind f.sttr (asking rules) l m → AgreeIn c.rules l m
  preimage_guards rules all names c b l m dl dm agree = looks_agree ranks D f.sttr (asking rules) l m dl dm agree names c.rules b.built b.fit

  pub domain_guards : (names : List LookName) (c : Auto L) → IsBuiltPreImage ranks D f [] [] names c → DomainKeepsGuards D f c
  domain_guards names c b l m dl dm agree = preimage_guards [] [] names c b l m dl dm (asks_nothing l m agree)

  pub out_restriction_maps : (a : Auto L) (looks : List LookName) (names : List Triple) (c : Trans L) → IsBuiltOutRestriction ranks D f a looks names c → KeepsMaps D f c
  out_restriction_maps a looks names c b n map_of = own (built_maps ranks D f.sttr (asking a.rules) ⊤ (λ same. tt) (λ h. h ≡ identity) (λ e. tt) (record { first = run f.start; all = a.start ∷ []; second = Some identity }) looks names c b n map_of)
    where
      own : ChainIf ranks D f.sttr (asking a.rules) ⊤ (λ same. tt) n → (m : L → L) × IsMapOf f.sttr m × MakesAlike D n m
      own (inl (m, is, k, none, alike)) = absurd (no_map a.rules k none)
      own (inr (inl (t, m, is, alike))) = (m, is, alike)
      own (inr (inr (same, k, none, alike))) = absurd (no_map a.rules k none)

  pub composition_maps : (g : Trans L) (looks : List LookName) (names : List Triple) (c : Trans L) → IsBuiltComposition ranks D f g looks names c → ChainsMaps D f g c
  composition_maps g looks names c b = built_maps ranks D f.sttr g.sttr (GivesSame g.sttr) (λ same. same) (IsHead g.sttr) (λ is. is) (record { first = run f.start; all = []; second = Some (run g.start) }) looks names c b

  module _ (a : Auto L) (looks : List LookName) (c : Trans L) (b : IsBuiltRestriction ranks D f a looks c) where
    state_of : (q : ℕ) (r : OutRule L) → Contains (out_rules c.sttr q) r → (q ≡ length f.sttr.rules) ⊎ (q < length f.sttr.rules)
    state_of q r here = last_or_before (length f.sttr.rules) q (subst (λ n. q < n) b.as_many (in_range c.sttr.rules q r here))

    at_start : (q : ℕ) (r : OutRule L) → q ≡ length f.sttr.rules → Contains (out_rules c.sttr q) r → Contains (out_rules c.sttr c.start) r
    at_start q r e here = subst (λ n. Contains (out_rules c.sttr n) r) (e ∙ sym b.start) here

    module _ (l m : L) (dl : D l) (dm : D m) (on_f : AgreeOn f.sttr l m) (on_a : AgreeIn a.rules l m) where
      restricted_look : (x : LookName) → OfEither f a x → (rs : List (Rule L)) → AreLookRules ranks D f.sttr (asking a.rules) looks rs x → (r : Rule L) → Contains rs r → r.guard l ≡ r.guard m
      restricted_look (of_first s) fits rs are r here =
          let (ρ, mine, made) = are.0 r here in
          made_same ranks D f.sttr (asking a.rules) looks r ρ.constructor ρ.guard (λ j. firsts (get_or ρ.demands j [])) made l m dl dm (on_f.looks s ρ mine)
      restricted_look (of_second s) fits rs are r here =
          let (ρ, mine, made) = are.0 r here in
          made_same ranks D f.sttr (asking a.rules) looks r ρ.constructor ρ.guard (λ j. seconds (get_or ρ.demands j [])) made l m dl dm (on_a s ρ mine)
      restricted_look (middle q all) fits rs are r here = absurd fits

      restricted_rule : (q : ℕ) (r : OutRule L) → (q ≡ length f.sttr.rules) ⊎ (q < length f.sttr.rules) → Contains (out_rules c.sttr q) r → r.rule.guard l ≡ r.rule.guard m
      restricted_rule q r (inl e) here =
          let (ρ, mine, σ, its, same, (made, stands)) = b.only r (at_start q r e here) in
          let gρ = on_f.rules f.start ρ mine in
          let gσ = on_a a.start σ its in
          made_same ranks D f.sttr (asking a.rules) looks r.rule ρ.rule.constructor (λ l. ρ.rule.guard l && σ.guard l) (λ j. firsts (get_or ρ.rule.demands j []) ++ seconds (get_or σ.demands j [])) made l m dl dm (λ i. gρ i && gσ i)
      restricted_rule q r (inr lt) here =
          let (ρ, mine, (made, stands)) = (b.old q lt).0 r here in
          made_same ranks D f.sttr (asking a.rules) looks r.rule ρ.rule.constructor ρ.rule.guard (λ j. firsts (get_or ρ.rule.demands j [])) made l m dl dm (on_f.rules q ρ mine)

      pub restriction_guards : AgreeOn c.sttr l m
      restriction_guards = record {
        looks = λ q r here. let (x, at) = at_place looks q (subst (λ n. q < n) b.look.as_many (in_range c.sttr.looks q r here)) in
            restricted_look x (b.looks_fit q x at) (rules_of c.sttr.looks q) (b.look.each q x at) r here;
        rules = λ q r here. restricted_rule q r (state_of q r here) here;
      }

    restricted_map : (q : ℕ) (r : OutRule L) → (q ≡ length f.sttr.rules) ⊎ (q < length f.sttr.rules) → Contains (out_rules c.sttr q) r → (n : L → L) → MakesBy r.term n → (m : L → L) × IsMapOf f.sttr m × MakesAlike D n m
    restricted_map q r (inl e) here n o =
        let (ρ, mine, σ, its, same, (made, stands)) = b.only r (at_start q r e here) in
        let (m, there, alike) = stands_makes (IsOldHead f.sttr) D r.term ρ.term stands n o in
        (m, (f.start, ρ, mine, there), alike)
    restricted_map q r (inr lt) here n o =
        let (ρ, mine, (made, stands)) = (b.old q lt).0 r here in
        let (m, there, alike) = stands_makes (IsOldHead f.sttr) D r.term ρ.term stands n o in
        (m, (q, ρ, mine, there), alike)

    pub restriction_maps : KeepsMaps D f c
    restriction_maps n map_of = let (q, r, here, o) = map_of in restricted_map q r (state_of q r here) here n o
