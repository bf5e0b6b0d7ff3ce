-- The names that ways ask for and call fit, where the name that they are for does.
use Rattle.std.proofs.Common.{◌++◌, ◌∷◌, get_or, Contains, Option, None, refl, ℕ, ◌≡◌, ◌⊎◌, ◌<◌, List, [], length, arith, Some, sym, ap, subst, ◌∙◌, inl, inr}
use Rattle.model_sta.specs.Automaton.{Rule, rules_of}
use Rattle.model_sta.specs.Sets.{Each}
use Rattle.model_sta.specs.Told.{AreOwn}
use Rattle.model_sta.specs.Operations.{Auto}
use Rattle.model_sttr.specs.Terms.{Term, Occurs}
use Rattle.model_sttr.specs.Transducer.{Head, identity, run, OutRule, Sttr, Trans, out_rules, IsHead, SttrFits}
use Rattle.model_sttr.specs.Operations.{asking}
use Rattle.model_sttr.proofs.Heads.{in_range}
use Rattle.sttr_theory.specs.Triples.{Triple, Way, LookName, of_first, of_second, middle, firsts, seconds, asked, AsksApart, IsAsked, IsCalled, IsTermFor, WayFits}
use Rattle.sttr_theory.specs.Built.{IsRuleOf, LookNameFits, TripleFits}
use Rattle.sttr_theory.specs.Results.{OfEither}
use Rattle.sttr_theory.proofs.Each.{each_both, each_map, each_to_map, each_all, each_get, each_place}
use Rattle.sttr_theory.proofs.Kept.{kept_occurs}

module _ {L : Type 0} (ranks : List ℕ) (D : L → Type 0) (f g : Sttr L) (ok : SttrFits f ranks) where
  -- what stands in a rule of a head is a head
  pub head_in_rule : (h : Head) → IsHead f h → (ρ : OutRule L) → IsRuleOf ranks D f g h ρ → (k : Head) (j : ℕ) → Occurs k j ρ.term → IsHead f k
  head_in_rule identity is ρ rule k j o = let (c, lt, e) = rule in subst (IsHead f) (kept_occurs (L → L) k 0 _ j (subst (λ r. Occurs k j r.term) e o)) is
  head_in_rule (run q) is ρ here k j o = (ok.rules q ρ here).heads k j o

  pub asked_fits : (h : Head) → IsHead f h → (ρ : OutRule L) → IsRuleOf ranks D f g h ρ → (n : LookName) (j : ℕ) → IsAsked f g ρ.term n j → LookNameFits f g n
  asked_fits h is ρ rule (of_first s) j asked = absurd asked
  asked_fits h is ρ rule (of_second s) j asked = (asked.1, head_in_rule h is ρ rule identity j asked.0)
  asked_fits h is ρ rule (middle q all) j asked = (head_in_rule h is ρ rule (run q) j asked.0, asked.1)

  -- what the rule itself demands does
  pub rule_demands_fit : (h : Head) (ρ : OutRule L) → IsRuleOf ranks D f g h ρ → (j : ℕ) → Each (LookNameFits f g) (firsts (get_or ρ.rule.demands j []))
  rule_demands_fit identity ρ rule j = let (c, lt, e) = rule in subst (λ r. Each (LookNameFits f g) (firsts (get_or r.rule.demands j []))) (sym e) tt
  rule_demands_fit (run q) ρ here j = each_to_map (LookNameFits f g) of_first (get_or ρ.rule.demands j []) (each_get (λ s. s < length f.looks) ρ.rule.demands j (ok.rules q ρ here).demands)

  -- and all that a way over it asks
  pub way_asks_fit : (h : Head) → IsHead f h → (ρ : OutRule L) → IsRuleOf ranks D f g h ρ → (x : Triple) (y : Way L) → WayFits f g ρ.term x y → (j : ℕ) → Each (LookNameFits f g) (firsts (get_or ρ.rule.demands j []) ++ asked (get_or y.demands j []))
  way_asks_fit h is ρ rule x y fits j =
      each_both (LookNameFits f g) (firsts (get_or ρ.rule.demands j [])) (asked (get_or y.demands j [])) (rule_demands_fit h ρ rule j)
      (each_map (λ n. IsAsked f g ρ.term n j) (LookNameFits f g) (λ n a. asked_fits h is ρ rule n j a) (asked (get_or y.demands j [])) (fits.demands j))

  -- what states of the lookahead of the first demand, or of the second's
  pub first_demands_fit : (s : ℕ) (r : Rule L) → Contains (rules_of f.looks s) r → (j : ℕ) → Each (LookNameFits f g) (firsts (get_or r.demands j []))
  first_demands_fit s r here j = each_to_map (LookNameFits f g) of_first (get_or r.demands j []) (each_get (λ s. s < length f.looks) r.demands j (ok.looks s r here))

  pub second_demands_fit : (into : List ℕ) → SttrFits g into → IsHead f identity → (s : ℕ) (r : Rule L) → Contains (rules_of g.looks s) r → (j : ℕ) → Each (LookNameFits f g) (seconds (get_or r.demands j []))
  second_demands_fit into fine is s r here j =
      each_to_map (LookNameFits f g) of_second (get_or r.demands j [])
      (each_map (λ s. s < length g.looks) (λ s. (s < length g.looks) × IsHead f identity) (λ s lt. (lt, is)) (get_or r.demands j []) (each_get (λ s. s < length g.looks) r.demands j (fine.looks s r here)))

  module _ (Second : Head → Type 0) (heads : (h : Head) → IsHead g h → Second h) where
    pub called_fits : (x : Triple) → TripleFits f g Second x → (ρ : OutRule L) → IsRuleOf ranks D f g x.first ρ → (d : Triple) (j : ℕ) → IsCalled f g ρ.term x d j → (d.first ≡ identity → ¬ (d.second ≡ Some identity)) → TripleFits f g Second d
    called_fits x fits ρ rule d j called moves = record {
      is_first = head_in_rule x.first fits.is_first ρ rule d.first j called.0.0;
      are = called.0.1;
      second = called.1;
      has_second = called.2;
      is_second = second called.1 called.3;
      no_copy = λ e i. moves e (called.2 ∙ ap Some i);
      asks_apart = called.4;
    }
      where
        unwrap : (a b : Head) → Some a ≡ Some b → a ≡ b
        unwrap a b e = cc

        second : (h : Head) → (x.second ≡ Some h) ⊎ IsHead g h → Second h
        second h (inl e) = subst Second (unwrap fits.second h (sym fits.has_second ∙ e)) fits.is_second
        second h (inr is) = heads h is

-- without rules there is no head
pub no_heads : {L : Type 0} (g : Sttr L) → g.rules ≡ [] → (h : Head) → IsHead g h → ⊥
no_heads g e identity (q, r, here, j, o) = let lt = subst (λ rs. q < length rs) e (in_range g.rules q r here) in absurd (omega (arith, lt))
no_heads g e (run q) is = let lt = subst (λ rs. q < length rs) e is in absurd (omega (arith, lt))

-- the lookahead of a second transducer that gives nothing, by itself
pub asking_fits : {L : Type 0} (rules : List (List (Rule L))) → AreOwn rules → (into : List ℕ) → SttrFits (asking rules) into
asking_fits rules own into = record {
  looks = λ s r here. each_place (λ t. t < length rules) r.demands (λ j. each_all (λ t. t < length rules) (get_or r.demands j []) (λ t c. own s r here j t c));
  rules = λ q r here. let lt = in_range (asking rules).rules q r here in absurd (omega (arith, lt));
}

-- ---- names of a restriction of inputs

module _ {L : Type 0} (f : Trans L) (a : Auto L) where
  pub either_first_fit : (ranks : List ℕ) → SttrFits f.sttr ranks → (s : ℕ) (r : Rule L) → Contains (rules_of f.sttr.looks s) r → (j : ℕ) → Each (OfEither f a) (firsts (get_or r.demands j []))
  either_first_fit ranks ok s r here j = each_to_map (OfEither f a) of_first (get_or r.demands j []) (each_get (λ s. s < length f.sttr.looks) r.demands j (ok.looks s r here))

  pub either_rule_fit : (ranks : List ℕ) → SttrFits f.sttr ranks → (q : ℕ) (r : OutRule L) → Contains (out_rules f.sttr q) r → (j : ℕ) → Each (OfEither f a) (firsts (get_or r.rule.demands j []))
  either_rule_fit ranks ok q r here j = each_to_map (OfEither f a) of_first (get_or r.rule.demands j []) (each_get (λ s. s < length f.sttr.looks) r.rule.demands j (ok.rules q r here).demands)

  pub either_second_fit : AreOwn a.rules → (s : ℕ) (r : Rule L) → Contains (rules_of a.rules s) r → (j : ℕ) → Each (OfEither f a) (seconds (get_or r.demands j []))
  either_second_fit own s r here j = each_to_map (OfEither f a) of_second (get_or r.demands j []) (each_all (λ t. t < length a.rules) (get_or r.demands j []) (λ t c. own s r here j t c))

-- ---- the terms of ways

-- a called triple of two identities is the one that stands for a child as it is
pub two_identities : (d : Triple) → AsksApart d → d.first ≡ identity → d.second ≡ Some identity → record { first = identity; all = []; second = Some identity } ≡ d
two_identities d apart e e' = sym (λ i. record { first = e i; all = apart e i; second = e' i })

module _ {L : Type 0} (f g : Sttr L) (p : Term Head (L → L)) (x : Triple) where
  term_by : (y : Option (Term Triple (L → L))) → IsTermFor f g p x y → ¬ (x.second ≡ None) → (z : Term Triple (L → L)) × (y ≡ Some z)
  term_by None is some = absurd (some is)
  term_by (Some z) is some = (z, refl)

  -- a way of a triple with a second part has a term, and one of a triple without has none
  pub has_term : (y : Way L) → WayFits f g p x y → (k : Head) → x.second ≡ Some k → (z : Term Triple (L → L)) × (y.term ≡ Some z)
  has_term y fits k e = term_by y.term fits.term (λ none. some k (sym e ∙ none))
    where
      some : (k : Head) → Some k ≡ None → ⊥
      some k e = cc

  no_term_by : (y : Option (Term Triple (L → L))) → IsTermFor f g p x y → x.second ≡ None → y ≡ None
  no_term_by None is none = refl
  no_term_by (Some z) is none = absurd (is.0 none)

  pub no_term : (y : Way L) → WayFits f g p x y → x.second ≡ None → y.term ≡ None
  no_term y fits none = no_term_by y.term fits.term none

  -- what stands in the term is called
  pub calls_of : (y : Way L) → WayFits f g p x y → (z : Term Triple (L → L)) → y.term ≡ Some z → (d : Triple) (j : ℕ) → Occurs d j z → IsCalled f g p x d j
  calls_of y fits z e d j o = let is : IsTermFor f g p x (Some z) = subst (IsTermFor f g p x) e fits.term in is.1 d j o

-- ---- the first names

run_is_state : (q : ℕ) → run q ≡ identity → ⊥
run_is_state q e = cc

pub out_restriction_start_fits : {L : Type 0} (f : Trans L) (a : Auto L) → f.start < length f.sttr.rules → a.start < length a.rules → TripleFits f.sttr (asking a.rules) (λ h. h ≡ identity) (record { first = run f.start; all = a.start ∷ []; second = Some identity })
out_restriction_start_fits f a first second = record {
  is_first = first;
  are = (second, tt);
  second = identity;
  has_second = refl;
  is_second = refl;
  no_copy = λ e. absurd (run_is_state f.start e);
  asks_apart = λ e. absurd (run_is_state f.start e);
}

pub composition_start_fits : {L : Type 0} (f g : Trans L) → f.start < length f.sttr.rules → g.start < length g.sttr.rules → TripleFits f.sttr g.sttr (IsHead g.sttr) (record { first = run f.start; all = []; second = Some (run g.start) })
composition_start_fits f g first second = record {
  is_first = first;
  are = tt;
  second = run g.start;
  has_second = refl;
  is_second = second;
  no_copy = λ e. absurd (run_is_state f.start e);
  asks_apart = λ e. refl;
}
