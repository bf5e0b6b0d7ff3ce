-- The ways of a head at a node.
use Rattle.std.proofs.Common.{ℕ, Bool, ◌≡◌, List, [], ◌∷◌, ◌++◌, map, get_or, Contains, None, refl, sym, subst, ap, ◌∙◌}
use Rattle.std.specs.List.{flat_map}
use Rattle.std.specs.Option.{option_map}
use Rattle.model_tree.specs.Label.{Label}
use Rattle.model_sttr.specs.Terms.{Term, build, Parts, with_maps}
use Rattle.model_sttr.specs.Transducer.{Head, identity, run, OutRule, Sttr, out_rules}
use Rattle.sta_core.specs.Sta.{automaton_of}
use Rattle.sttr_core.specs.Machine.{OutMachine, transducer_of}
use Rattle.sttr_core.proofs.Meaning.{meaning_of, rules_meant}
use Rattle.sttr_theory.specs.Lists.{once, SameStates}
use Rattle.sttr_theory.specs.Triples.{Triple}
use Rattle.sttr_theory.specs.Ways.{WayOf, Pick as Picking, picks_of, guarded, gives_ways, gives_at, rule_ways}
use Rattle.sttr_run.specs.Drafts.{AreAmong, only, Covers}
use Rattle.sttr_run.specs.Found.{pick_ways, CoversPicks}
use Rattle.sttr_run.specs.Picks.{ArePicks, AreApplied}
use Rattle.sttr_run.specs.Sets.{IsAscending}
use Rattle.sttr_run.specs.declared.drafts.Draft.{Draft}
use Rattle.sttr_run.specs.declared.picks.Pick.{Pick}
use Rattle.sttr_run.proofs.NodeWays.{picks_cover, rules_cover}

flat_mapped : {X Y Z : Type 0} (f : Y → List Z) (g : X → Y) (xs : List X) → flat_map (λ x. f (g x)) xs ≡ flat_map f (map g xs)
flat_mapped f g [] = refl
flat_mapped f g (x ∷ xs) = ap (λ zs. f (g x) ++ zs) (flat_mapped f g xs)

module _ {A M : Type 0} (holds : A → Label → Bool) (make : M → Label → Label) (D : Label → Type 0) where
  -- lists that are the same
  pub covers_same : {I X : Type 0} (terms : X → List (Term Triple (Label → Label))) (Same More : I → Type 0) (F G : I → List (WayOf Label X)) (ys : List (Draft A M)) → ((i : I) → F i ≡ G i) → Covers holds make D terms Same More F ys → Covers holds make D terms Same More G ys
  covers_same terms Same More F G ys e c = record {
    each = λ i s y at. let (z, in_z, says) = c.each i s y at in (z, subst (λ zs. Contains zs z) (e i) in_z, says);
    all = λ i s z at. c.all i s z (subst (λ zs. Contains zs z) (sym (e i)) at);
  }

  module _ (second : OutMachine A M) (c : ℕ) (m : M) (ps : Parts Head (Label → Label)) (all : List ℕ) (asc : IsAscending all) (xs : List (Pick A M)) (picks : ArePicks holds make D c m (automaton_of holds second.looks) all xs) (ys : List (Draft A M)) where
    abbrev T : Sttr Label
    T = transducer_of holds make second

    -- of the identity
    pub given_kept : CoversPicks holds make D only (λ t E. pick_ways T c (make m) ps None E) xs ys → Covers holds make D only (SameStates all) (AreAmong all) (λ Z. gives_ways T (build c (make m) ps) Z identity) ys
    given_kept covers = picks_cover holds make D only c m (automaton_of holds second.looks) all asc xs picks ys (λ t E. pick_ways T c (make m) ps None E) (λ E. pick_ways T c (make m) ps None E) (λ x. refl) covers

    abbrev Os : ℕ → List ℕ → Head → List (WayOf Label (Term Triple (Label → Label)))
    Os j Z h = gives_at T j ps Z h

    abbrev Rules : Picking Label → OutRule Label → List (WayOf Label (Term Triple (Label → Label)))
    Rules x = rule_ways T c (make m) Os ps x.wants

    -- of a state
    pub given_run : (q : ℕ) (more : List (Pick A M)) → AreApplied holds make D c m (get_or second.rules q []) xs more → CoversPicks holds make D only (λ t E. pick_ways T c (make m) ps (option_map (with_maps make) t) E) more ys
        → Covers holds make D only (SameStates all) (AreAmong all) (λ Z. gives_ways T (build c (make m) ps) Z (run q)) ys
    given_run q more applied covers =
        let rules = get_or second.rules q [] in
        let same : (x : Picking Label) → flat_map (λ r. Rules x (meaning_of holds make r)) rules ≡ flat_map (Rules x) (out_rules T q) = λ x. flat_mapped (Rules x) (meaning_of holds make) rules ∙ ap (flat_map (Rules x)) (sym (rules_meant holds make second q)) in
        covers_same only (SameStates all) (AreAmong all) (λ Z. flat_map (λ x. map (guarded (λ l. x.guard (make m l))) (flat_map (λ r. Rules x (meaning_of holds make r)) rules)) (picks_of (automaton_of holds second.looks) c (once Z))) (λ Z. gives_ways T (build c (make m) ps) Z (run q)) ys
        (λ Z i. flat_map (λ x. map (guarded (λ l. x.guard (make m l))) (same x i)) (picks_of (automaton_of holds second.looks) c (once Z)))
        (rules_cover holds make D only c m (automaton_of holds second.looks) all asc xs picks ys rules more applied (λ t E. pick_ways T c (make m) ps (option_map (with_maps make) t) E) covers)
