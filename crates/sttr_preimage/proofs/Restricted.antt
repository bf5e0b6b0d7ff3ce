-- Transducers over the trees of another one, and restrictions of outputs.
use Rattle.std.proofs.Common.{ℕ, zero, suc, ◌≡◌, ◌<◌, ◌⊎◌, inl, inr, Bool, true, List, [], ◌∷◌, map, get_or, length, All, Contains, refl, sym, subst, arith}
use Rattle.std.proofs.lemmas.List.{length-map}
use Rattle.model_tree.specs.Label.{Label}
use Rattle.model_tree.specs.Formula.{EveryAtom}
use Rattle.model_sttr.specs.Terms.{Term, on, build, Parts, no_parts, part, with_maps, parts_with_maps, Uses, UsesIn}
use Rattle.model_sttr.specs.Transducer.{identity, run, Sttr, SttrFits}
use Rattle.model_sttr.specs.Plain.{PlainOut}
use Rattle.label_core.specs.Meaning.{Meaning}
use Rattle.sta_core.specs.Machine.{Machine, PlainRule}
use Rattle.sta_core.specs.Sta.{rule_meaning}
use Rattle.sta_core.specs.declared.Lang.{Lang}
use Rattle.sttr_core.specs.Machine.{OutMachine, transducer_of}
use Rattle.sttr_core.specs.Fits.{EveryMap, MapsAre}
use Rattle.sttr_core.specs.declared.sttr.Trans.{Trans}
use Rattle.sttr_theory.specs.Triples.{Triple}
use Rattle.sttr_theory.specs.Results.{IsBuiltOutRestriction}
use Rattle.sttr_theory.proofs.Fits.{built_fits}
use Rattle.sttr_theory.proofs.Guards.{built_agrees, out_restriction_maps}
use Rattle.sttr_theory.proofs.Linear.{out_restriction_linear}
use Rattle.sttr_theory.proofs.Names.{no_heads}
use Rattle.sttr_theory.proofs.Records.{out_restriction_owed}
use Rattle.sttr_run.specs.Fits.{RuleStands, OutStands, SttrStands}
use Rattle.sttr_preimage.specs.Called.{through, KeepsOutput, MayRun}
use Rattle.sttr_preimage.specs.Images.{first_of, second_of}
use Rattle.sttr_preimage.specs.Outs.{HasState, RuleOver, IsOver, IsTransFor}
use Rattle.sttr_preimage.specs.Through.{nothing_of, IsThroughAtom, IsKeptMap, IsChainedMap, IsOwnMap, IsThroughMap}
use Rattle.sttr_preimage.specs.Results.{trans_at, auto_at, IsImageAtom, IsOldMap, IsOutRestricted, IsTransOver, IsTransPutFrom}
use Rattle.sttr_preimage.proofs.Atoms.{row_in, all_in, in_all, all_map, every_map}
use Rattle.sttr_preimage.proofs.Chained.{maps_at}
use Rattle.sttr_preimage.proofs.Finished.{no_map, atom_asked}
use Rattle.sttr_preimage.proofs.Outing.{fits_wider}
use Rattle.sttr_preimage.proofs.Standing.{occurs_back, rule_over, as_many_rules}

module _ {H M N : Type 0} (f : M → N) (j : ℕ) where
  mutual
    uses_back : (p : Term H M) → Uses j p → Uses j (with_maps f p)
    uses_back (on k i) u = u
    uses_back (build c m ps) u = uses_in_back ps u

    uses_in_back : (ps : Parts H M) → UsesIn j ps → UsesIn j (parts_with_maps f ps)
    uses_in_back no_parts u = u
    uses_in_back (part p ps) (inl u) = inl (uses_back p u)
    uses_in_back (part p ps) (inr u) = inr (uses_in_back ps u)

-- what holds at each place of lists of lists
pub in_rows : {X : Type 0} (P : X → Type 0) (xss : List (List X)) → ((q : ℕ) (x : X) → q < length xss → Contains (get_or xss q []) x → P x) → All (All P) xss
in_rows {X = X} P xss f = in_all (All P) xss (λ xs at. in_all P xs (λ x mine. f at.0 x at.1 (subst (λ l. Contains l x) (sym (place xss at.0 xs at.1 at.2)) mine)))
  where
    place : (yss : List (List X)) (k : ℕ) (xs : List X) → k < length yss → get_or yss k xs ≡ xs → get_or yss k [] ≡ xs
    place [] k xs low e = absurd (omega (arith, low))
    place (ys ∷ yss) zero xs low e = e
    place (ys ∷ yss) (suc k) xs low e = place yss k xs (omega (arith, low)) e

-- atoms and maps of more kinds
pub over_wider : {A M : Type 0} (fits P P' : A → Type 0) (Q Q' : M → Type 0) (f d : OutMachine A M) → ((b : A) → P b → P' b) → ((m : M) → Q m → Q' m) → IsOver fits P Q f d → IsOver fits P' Q' f d
over_wider fits P P' Q Q' f d atom map over = record {
  ranks = over.ranks;
  fit = over.fit;
  atoms = all_map (All (λ r. EveryAtom P r.guard)) (All (λ r. EveryAtom P' r.guard)) d.looks.rules (λ rs all. all_map (λ r. EveryAtom P r.guard) (λ r. EveryAtom P' r.guard) rs (λ r is. every_map P P' atom r.guard is) all) over.atoms;
  rules = all_map (All (RuleOver fits P Q f (length d.looks.rules))) (All (RuleOver fits P' Q' f (length d.looks.rules))) d.rules
      (λ rs all. all_map (RuleOver fits P Q f (length d.looks.rules)) (RuleOver fits P' Q' f (length d.looks.rules)) rs (λ r is. record { stands = is.stands; fit = is.fit; atoms = every_map P P' atom r.rule.guard is.atoms; maps = λ m o. map m (is.maps m o) }) all) over.rules;
}

module _ {A M : Type 0} (make : M → Label → Label) (holds : A → Label → Bool) (fits P : A → Type 0) (Q : M → Type 0) (f d : OutMachine A M) (over : IsOver fits P Q f d) where
  rule_at : (q : ℕ) (r : PlainOut (PlainRule A) M) → q < length d.rules → Contains (get_or d.rules q []) r → RuleOver fits P Q f (length d.looks.rules) r
  rule_at q r low at = all_in (RuleOver fits P Q f (length d.looks.rules)) (get_or d.rules q []) (all_in (All (RuleOver fits P Q f (length d.looks.rules))) d.rules over.rules (get_or d.rules q []) (row_in d.rules q low)) r at

  pub over_stands : SttrFits (transducer_of holds make d) f.looks.ranks → SttrStands d
  over_stands fitting = in_rows (OutStands d.looks.ranks (length d.looks.rules) (length d.rules)) d.rules (λ q r low at.
      let is = rule_at q r low at in
      let fit = fitting.rules q _ (rule_over holds make d q r (low, at)) in
      record {
        rule = subst (λ rk. RuleStands rk (length d.looks.rules) r.rule) (sym over.ranks) is.stands;
        children = λ j u. subst (λ rk. j < get_or rk r.rule.constructor 0) (sym over.ranks) (fit.children j (uses_back make j r.term u));
        calls = λ k j o. subst (λ n. k < n) (as_many_rules holds make d) (fit.heads (run k) j (occurs_back make (run k) j r.term o));
      })

  every_rule : (S : PlainOut (PlainRule A) M → Type 0) → ((r : PlainOut (PlainRule A) M) → RuleOver fits P Q f (length d.looks.rules) r → S r) → All (All S) d.rules
  every_rule S to = all_map (All (RuleOver fits P Q f (length d.looks.rules))) (All S) d.rules (λ rs all. all_map (RuleOver fits P Q f (length d.looks.rules)) S rs to all) over.rules

  pub over_guards : All (All (λ r. EveryAtom fits r.rule.guard)) d.rules
  over_guards = every_rule (λ r. EveryAtom fits r.rule.guard) (λ r is. is.fit)

  pub over_atoms : All (All (λ r. EveryAtom P r.rule.guard)) d.rules
  over_atoms = every_rule (λ r. EveryAtom P r.rule.guard) (λ r is. is.atoms)

  pub over_maps : (S : M → Type 0) → ((m : M) → Q m → S m) → MapsAre S d
  over_maps S to = every_rule (λ r. EveryMap S r.term) (λ r is m o. to m (is.maps m o))

module _ {T A M V W : Type 0} (make : M → Label → Label) {label_of : V → Label} {holds : A → Label → Bool} (N : Meaning label_of holds W) (fits P : A → Type 0) (map_eq : M → M → Bool) (map_fits : M → Type 0) (map_makes : T → M → Type 0) (f : OutMachine A M)
    (labels : MapsAre map_fits f) (fit_same : (m n : M) → map_eq m n ≡ true → map_fits m → map_fits n) (make_same : (made : T) (m n : M) → map_eq m n ≡ true → map_makes made m → map_makes made n) where
  module _ (d : OutMachine A M) (over : IsOver fits P (IsOldMap map_eq f) f d) (fitting : SttrFits (transducer_of holds make d) f.looks.ranks) where
    pub is_over : (state : ℕ) → state < length d.rules → IsTransOver map_eq N fits map_fits map_makes P f (record { sttr = d; state = state })
    is_over state low = record {
      ranks = over.ranks;
      low = low;
      stands = over_stands make holds fits P (IsOldMap map_eq f) f d over fitting;
      labels = record { looks = over.fit; guards = over_guards make holds fits P (IsOldMap map_eq f) f d over; maps = over_maps make holds fits P (IsOldMap map_eq f) f d over map_fits (λ m w. fit_same w.0 m w.2 (maps_at map_fits f labels w.0 w.1)) };
      makes = λ made all. over_maps make holds fits P (IsOldMap map_eq f) f d over (map_makes made) (λ m w. make_same made w.0 m w.2 (maps_at (map_makes made) f all w.0 w.1));
      atoms = record { looks = over.atoms; guards = over_atoms make holds fits P (IsOldMap map_eq f) f d over };
      maps = over_maps make holds fits P (IsOldMap map_eq f) f d over (IsOldMap map_eq f) (λ m is. is);
    }

-- ---- restrictions of outputs

-- the triple of the first state has a state
pub start_known : {A M V W : Type 0} (is_put : M → A → A → Type 0) (make : M → Label → Label) {label_of : V → Label} {holds : A → Label → Bool} (N : Meaning label_of holds W) (fits : A → Type 0) (f : OutMachine A M) (a : Machine A) (q s : ℕ) → q < length f.rules → s < length a.rules
    → HasState is_put make N fits f (nothing_of a) (KeepsOutput (through q (s ∷ []) identity)) (through q (s ∷ []) identity)
start_known is_put make {holds = holds} N fits f a q s low state = record {
  is_first = subst (λ n. q < n) (sym (as_many_rules holds make f)) low;
  are = (subst (λ n. s < n) (sym (length-map a.rules (map (rule_meaning holds)))) state, tt);
  second = identity;
  has_second = refl;
  is_second = inr (refl, refl);
  no_copy = λ e. absurd (cc);
  asks_apart = λ e. absurd (cc);
}

module _ {T A M V W : Type 0} (is_put : M → A → A → Type 0) (make : M → Label → Label) {label_of : V → Label} {holds : A → Label → Bool} (N : Meaning label_of holds W) (fits : A → Type 0) (f : Trans A M) (a : Lang A) (map_eq : M → M → Bool) (is_chained : M → M → M → Type 0) (map_fits : M → Type 0) (map_makes : T → M → Type 0) (c : Trans A M) where
  abbrev Second : OutMachine A M
  Second = nothing_of a.sta

  abbrev F : Sttr Label
  F = first_of holds make f.sttr Second

  abbrev G : Sttr Label
  G = second_of holds make f.sttr Second

  abbrev Map : Type 0 → M → Type 0
  Map = IsThroughMap map_eq is_chained map_fits map_makes f.sttr Second

  abbrev start : Triple
  start = through f.state (a.state ∷ []) identity

  module _ (h : IsTransFor is_put make N fits f.sttr Second Map start c) where
    built : IsBuiltOutRestriction f.sttr.looks.ranks N.has (trans_at holds make f) (auto_at holds a) h.looks h.names (trans_at holds make c)
    built = record {
      built = h.built.built;
      looks_fit = h.built.looks_fit;
      fit = λ i x at. fits_wider F G (MayRun G (KeepsOutput start)) (λ h. h ≡ identity) x (λ h may. elim may [ inl head ↦ absurd (no_heads G refl h head) | inr kept ↦ kept.1 ]) (h.built.fit i x at);
      start = h.built.start;
    }

    old_map : (n : M) → Map (KeepsOutput start) n → IsOldMap map_eq f.sttr n
    old_map n is = by is.source
      where
        by : IsKeptMap map_eq is_chained map_fits map_makes f.sttr Second (KeepsOutput start) n ⊎ IsChainedMap map_eq is_chained map_fits map_makes f.sttr Second n ⊎ IsOwnMap map_eq is_chained map_fits map_makes f.sttr Second n → IsOldMap map_eq f.sttr n
        by (inl (why, m, has, e)) = (m, has, e)
        by (inr (inl (m, has, k, none, d, is, e, makes))) = absurd (no_map a.sta k none)
        by (inr (inr (child, k, none, e))) = absurd (no_map a.sta k none)

    module _ (ok : SttrFits F f.sttr.looks.ranks) where
      pub out_relation : IsOutRestricted make N f a c
      out_relation = record {
        exact = out_restriction_owed f.sttr.looks.ranks N.has (trans_at holds make f) ok (auto_at holds a) h.looks h.names (trans_at holds make c) built;
        guards = λ l m dl dm agree. built_agrees f.sttr.looks.ranks N.has F G l m dl dm agree (λ h. h ≡ identity) start h.looks h.names (trans_at holds make c) built;
        maps = out_restriction_maps f.sttr.looks.ranks N.has (trans_at holds make f) (auto_at holds a) h.looks h.names (trans_at holds make c) built;
        linear = out_restriction_linear f.sttr.looks.ranks N.has (trans_at holds make f) (auto_at holds a) h.looks h.names (trans_at holds make c) built;
      }

      pub out_made : MapsAre map_fits f.sttr → ((m n : M) → map_eq m n ≡ true → map_fits m → map_fits n) → ((made : T) (m n : M) → map_eq m n ≡ true → map_makes made m → map_makes made n) → IsTransPutFrom map_eq is_put N fits map_fits map_makes f.sttr a.sta.rules c
      out_made labels fit_same make_same =
          is_over make N fits (IsImageAtom N.equal f.sttr a.sta.rules is_put) map_eq map_fits map_makes f.sttr labels fit_same make_same c.sttr
          (over_wider fits (IsThroughAtom N.equal is_put f.sttr Second) (IsImageAtom N.equal f.sttr a.sta.rules is_put) (Map (KeepsOutput start)) (IsOldMap map_eq f.sttr) f.sttr c.sttr (atom_asked a.sta N.equal is_put f.sttr) old_map h.over)
          (built_fits f.sttr.looks.ranks N.has F G ok h.looks h.names (transducer_of holds make c.sttr) h.built.built) c.state h.low
