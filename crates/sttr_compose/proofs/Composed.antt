-- What composition owes, from what is built.
use Rattle.std.specs.Prelude.{⊤}
use Rattle.std.proofs.Common.{ℕ, ◌≡◌, ◌<◌, ◌⊎◌, inl, inr, Bool, true, List, [], length, All, refl, sym, subst}
use Rattle.model_tree.specs.Label.{Label}
use Rattle.model_sttr.specs.Transducer.{run, Sttr, IsHead, SttrFits}
use Rattle.label_core.specs.Meaning.{Meaning}
use Rattle.sttr_core.specs.Machine.{OutMachine, transducer_of}
use Rattle.sttr_core.specs.Fits.{MapsAre, LabelsFit}
use Rattle.sttr_core.specs.declared.sttr.Trans.{Trans}
use Rattle.sttr_theory.specs.Triples.{Triple}
use Rattle.sttr_theory.specs.Results.{IsBuiltComposition}
use Rattle.sttr_theory.proofs.Fits.{built_fits}
use Rattle.sttr_theory.proofs.Guards.{built_agrees, composition_maps}
use Rattle.sttr_theory.proofs.Linear.{composition_linear}
use Rattle.sttr_theory.proofs.Records.{composition_owed}
use Rattle.sttr_run.specs.Fits.{RuleStands, SttrStands}
use Rattle.sttr_run.specs.Sources.{GivesChild}
use Rattle.sttr_run.specs.declared.running.RunStop.{RunStop}
use Rattle.sttr_run.specs.declared.running.RunStop.TheVariants as stop
use Rattle.sttr_preimage.specs.Called.{through, KeepsOutput, MayRun}
use Rattle.sttr_preimage.specs.Images.{CanAsk}
use Rattle.sttr_preimage.specs.Outs.{HasState, IsTransFor}
use Rattle.sttr_preimage.specs.Results.{trans_at}
use Rattle.sttr_preimage.specs.Through.{IsThroughAtom, IsKeptMap, IsChainedMap, IsOwnMap, IsThroughMap, IsThroughStop}
use Rattle.sttr_preimage.proofs.Chained.{maps_at}
use Rattle.sttr_preimage.proofs.Outing.{fits_wider}
use Rattle.sttr_preimage.proofs.Restricted.{over_stands, over_guards, over_atoms, over_maps}
use Rattle.sttr_preimage.proofs.Standing.{as_many_rules}
use Rattle.sttr_compose.specs.Results.{MakesFor, SpeaksOfFirst, CanCompose, IsComposed, IsComposedMap, IsTransThrough, IsComposeStop}

-- two transducers as one
pub same_machine : {A M : Type 0} (p q : OutMachine A M) → p.looks ≡ q.looks → p.rules ≡ q.rules → p ≡ q
same_machine p q e e' = λ i. record { looks = e i; rules = e' i }

-- the pair of first states
abbrev pub first_pair : ℕ → ℕ → Triple
first_pair q r = through q [] (run r)

moves : (q r : ℕ) → KeepsOutput (first_pair q r) → ⊥
moves q r e = cc

pub pair_known : {A M V W : Type 0} (is_put : M → A → A → Type 0) (make : M → Label → Label) {label_of : V → Label} {holds : A → Label → Bool} (N : Meaning label_of holds W) (fits : A → Type 0) (f g : OutMachine A M) (q r : ℕ) → q < length f.rules → r < length g.rules → HasState is_put make N fits f g (KeepsOutput (first_pair q r)) (first_pair q r)
pair_known is_put make {holds = holds} N fits f g q r low state = record {
  is_first = subst (λ n. q < n) (sym (as_many_rules holds make f)) low;
  are = tt;
  second = run r;
  has_second = refl;
  is_second = inl (subst (λ n. r < n) (sym (as_many_rules holds make g)) state);
  no_copy = λ e. absurd (cc);
  asks_apart = λ e. refl;
}

pub can_compose : {T A M : Type 0} (atom_fits : T → A → Type 0) (map_fits map_makes : T → M → Type 0) (theory : T) (f g : OutMachine A M) → All (All (RuleStands f.looks.ranks (length f.looks.rules))) f.looks.rules → SttrStands f → LabelsFit (atom_fits theory) (map_fits theory) f → All (All (RuleStands g.looks.ranks (length g.looks.rules))) g.looks.rules → SttrStands g
    → MakesFor atom_fits map_fits map_makes f g → (GivesChild f → SpeaksOfFirst (atom_fits theory) (map_fits theory) f g) → CanAsk atom_fits map_fits map_makes theory f g ⊥ ⊤
can_compose atom_fits map_fits map_makes theory f g looks stands labels second_looks second_stands makes unchanged = record {
  looks = looks;
  stands = stands;
  labels = labels;
  second_looks = second_looks;
  second_stands = second_stands;
  makes = λ p. makes;
  ranks = λ e. elim e [ inl child ↦ (unchanged child).ranks | inr none ↦ absurd none ];
  speaks = λ e. elim e [ inl child ↦ (unchanged child).labels | inr none ↦ absurd none ];
}

pub stop_through : {A M : Type 0} (put_outside : M → A → _ → Type 0) (chain_outside : M → M → _ → Type 0) (f g : OutMachine A M) (e : RunStop) → IsThroughStop put_outside chain_outside f g e → IsComposeStop put_outside chain_outside f g e
stop_through put_outside chain_outside f g (stop.Range n) h = h
stop_through put_outside chain_outside f g stop.Memory h = tt

-- what is built of a machine that is held is built of the same machine
pub trans_as : {T A M V W : Type 0} (is_put : M → A → A → Type 0) (make : M → Label → Label) {label_of : V → Label} {holds : A → Label → Bool} (N : Meaning label_of holds W) (fits : A → Type 0) (map_eq : M → M → Bool) (is_chained : M → M → M → Type 0) (map_fits : M → Type 0) (map_makes : T → M → Type 0) (f held g : OutMachine A M)
    → held ≡ g → (q r : ℕ) (all : List ℕ) → all ≡ [] → (c : Trans A M) → IsTransFor is_put make N fits f held (IsThroughMap map_eq is_chained map_fits map_makes f held) (through q all (run r)) c → IsTransFor is_put make N fits f g (IsThroughMap map_eq is_chained map_fits map_makes f g) (first_pair q r) c
trans_as is_put make N fits map_eq is_chained map_fits map_makes f held g same q r all none c h =
    subst (λ s. IsTransFor is_put make N fits f s (IsThroughMap map_eq is_chained map_fits map_makes f s) (first_pair q r) c) same (subst (λ z. IsTransFor is_put make N fits f held (IsThroughMap map_eq is_chained map_fits map_makes f held) (through q z (run r)) c) none h)

module _ {T A M V W : Type 0} (is_put : M → A → A → Type 0) (make : M → Label → Label) {label_of : V → Label} {holds : A → Label → Bool} (N : Meaning label_of holds W) (fits : A → Type 0) (map_eq : M → M → Bool) (is_chained : M → M → M → Type 0) (map_fits : M → Type 0) (map_makes : T → M → Type 0) (f g c : Trans A M) where
  abbrev F : Sttr Label
  F = transducer_of holds make f.sttr

  abbrev G : Sttr Label
  G = transducer_of holds make g.sttr

  abbrev R : List ℕ
  R = f.sttr.looks.ranks

  abbrev K : Type 0
  K = KeepsOutput (first_pair f.state g.state)

  abbrev Map : Type 0 → M → Type 0
  Map = IsThroughMap map_eq is_chained map_fits map_makes f.sttr g.sttr

  module _ (h : IsTransFor is_put make N fits f.sttr g.sttr Map (first_pair f.state g.state) c) (ok : SttrFits F R) where
    built : IsBuiltComposition R N.has (trans_at holds make f) (trans_at holds make g) h.looks h.names (trans_at holds make c)
    built = record {
      built = h.built.built;
      looks_fit = h.built.looks_fit;
      fit = λ i x at. fits_wider F G (MayRun G K) (IsHead G) x (λ h may. elim may [ inl head ↦ head | inr kept ↦ absurd (moves f.state g.state kept.0) ]) (h.built.fit i x at);
      start = h.built.start;
    }

    pub composed : CanCompose holds make N.has f.sttr g.sttr → IsComposed make N f g c
    composed can = record {
      exact = composition_owed R N.has (trans_at holds make f) ok (trans_at holds make g) h.looks h.names (trans_at holds make c) can built;
      guards = λ l m dl dm agree. built_agrees R N.has F G l m dl dm agree (IsHead G) (first_pair f.state g.state) h.looks h.names (trans_at holds make c) built;
      maps = composition_maps R N.has (trans_at holds make f) (trans_at holds make g) h.looks h.names (trans_at holds make c) built;
      linear = composition_linear R N.has (trans_at holds make f) (trans_at holds make g) h.looks h.names (trans_at holds make c) built;
    }

    abbrev Source : M → Type 0
    Source n = IsKeptMap map_eq is_chained map_fits map_makes f.sttr g.sttr K n ⊎ IsChainedMap map_eq is_chained map_fits map_makes f.sttr g.sttr n ⊎ IsOwnMap map_eq is_chained map_fits map_makes f.sttr g.sttr n

    map_made : (n : M) → Map K n → IsComposedMap map_eq is_chained f.sttr g.sttr n
    map_made n is = by is.source
      where
        by : Source n → IsComposedMap map_eq is_chained f.sttr g.sttr n
        by (inl (inl keeps, m, has, e)) = absurd (moves f.state g.state keeps)
        by (inl (inr child, m, has, e)) = inr (inl (child, m, has, e))
        by (inr (inl (m, has, k, own, i, is, e, makes))) = inl (m, has, k, own, i, is, e)
        by (inr (inr own)) = inr (inr own)

    map_makes_so : ((made : T) (m n : M) → map_eq m n ≡ true → map_makes made m → map_makes made n) → (made : T) → MapsAre (map_makes made) g.sttr → (GivesChild g.sttr → MapsAre (map_makes made) f.sttr) → (n : M) → Map K n → map_makes made n
    map_makes_so make_same made second first n is = by is.source
      where
        by : Source n → map_makes made n
        by (inl (inl keeps, m, has, e)) = absurd (moves f.state g.state keeps)
        by (inl (inr child, m, has, e)) = make_same made m n e (maps_at (map_makes made) f.sttr (first child) m has)
        by (inr (inl (m, has, k, own, i, is, e, makes))) = makes made (maps_at (map_makes made) g.sttr second k own)
        by (inr (inr (child, k, has, e))) = make_same made k n e (maps_at (map_makes made) g.sttr second k has)

    abbrev Atom : A → Type 0
    Atom = IsThroughAtom N.equal is_put f.sttr g.sttr

    pub made_through : ((made : T) (m n : M) → map_eq m n ≡ true → map_makes made m → map_makes made n) → IsTransThrough map_eq is_put is_chained N fits map_fits map_makes f.sttr g.sttr c
    made_through make_same = record {
      ranks = h.over.ranks;
      low = h.low;
      stands = over_stands make holds fits Atom (Map K) f.sttr c.sttr h.over (built_fits R N.has F G ok h.looks h.names (transducer_of holds make c.sttr) h.built.built);
      labels = record { looks = h.over.fit; guards = over_guards make holds fits Atom (Map K) f.sttr c.sttr h.over; maps = over_maps make holds fits Atom (Map K) f.sttr c.sttr h.over map_fits (λ m is. is.fit) };
      makes = λ made second first. over_maps make holds fits Atom (Map K) f.sttr c.sttr h.over (map_makes made) (map_makes_so make_same made second first);
      atoms = record { looks = h.over.atoms; guards = over_atoms make holds fits Atom (Map K) f.sttr c.sttr h.over };
      maps = over_maps make holds fits Atom (Map K) f.sttr c.sttr h.over (IsComposedMap map_eq is_chained f.sttr g.sttr) map_made;
    }
