-- The ways in which the second runs over a term of a rule of the first.
use Rattle.std.specs.Prelude.{⊤}
use Rattle.std.proofs.Common.{ℕ, ℤ, ◌≡◌, ◌<◌, inl, inr, Bool, true, get_or, length, [], All, Option, Some, None, subst}
use Rattle.model_tree.specs.Label.{Label}
use Rattle.model_sttr.specs.Transducer.{Head, identity}
use Rattle.model_sttr.specs.Plain.{PlainOut}
use Rattle.model_sttr.specs.Guards.{MakesBy}
use Rattle.label_core.specs.Formula.{plain_formula}
use Rattle.label_core.specs.Meaning.{Meaning}
use Rattle.sta_core.specs.Machine.{PlainRule}
use Rattle.model_sta.specs.Operations.{AreStates}
use Rattle.sttr_core.specs.Machine.{OutMachine, transducer_of}
use Rattle.sttr_core.specs.Fits.{EveryMap, MapsAre}
use Rattle.sttr_theory.specs.Triples.{Triple}
use Rattle.sttr_run.specs.Plain.{plain_way_term}
use Rattle.sttr_run.specs.Runs.{CanRun, OnTerm, IsRunMap, WayIsMade, IsRunStop}
use Rattle.sttr_run.specs.Runs as runs
use Rattle.sttr_run.specs.Sources.{HasMap}
use Rattle.sttr_run.specs.declared.triples.Way.{Way}
use Rattle.sttr_run.specs.declared.triples.WayTerm.{WayTerm}
use Rattle.sttr_run.specs.declared.running.RunStop.{RunStop}
use Rattle.sttr_run.specs.declared.running.RunStop.TheVariants as stop
use Rattle.sttr_preimage.specs.Images.{CanAsk, HasOutRule, WayStands}
use Rattle.sttr_preimage.specs.Through.{IsAtomBehind, IsThroughMap, IsThroughStop}
use Rattle.sttr_preimage.proofs.Atoms.{row_in, all_in, every_map}
use Rattle.sttr_preimage.proofs.Middles.{each_to_all}
use Rattle.sttr_preimage.proofs.Standing.{as_many_looks}

module _ {A M : Type 0} (f g : OutMachine A M) (q : ℕ) (r : PlainOut (PlainRule A) M) (there : HasOutRule f q r) where
  own_map : (m : M) → MakesBy r.term m → HasMap f m
  own_map m o = (get_or f.rules q [], row_in f.rules q there.0, r, there.1, o)

  own_maps : (P : M → Type 0) → MapsAre P f → EveryMap P r.term
  own_maps P all = all_in (λ r. EveryMap P r.term) (get_or f.rules q []) (all_in (λ rules. All (λ r. EveryMap P r.term) rules) f.rules all (get_or f.rules q []) (row_in f.rules q there.0)) r there.1

  pub can_run : {T : Type 0} (atom_fits : T → A → Type 0) (map_fits map_makes : T → M → Type 0) (theory : T) → CanAsk atom_fits map_fits map_makes theory f g ⊥ ⊤ → (t : Triple) → All (λ s. s < length g.looks.rules) t.all → CanRun atom_fits map_fits map_makes theory g r.term t
  can_run atom_fits map_fits map_makes theory can t states =
      let (made, maps, speaks) = can.makes tt in
      record {
        stands = can.second_stands;
        states = states;
        maps = own_maps (map_fits theory) can.labels.maps;
        asked = record { made = made; into = own_maps (map_makes made) maps; speaks = speaks };
      }

  pub stop_of : (put_outside : M → A → ℤ → Type 0) (chain_outside : M → M → ℤ → Type 0) (e : RunStop) → IsRunStop put_outside chain_outside g r.term e → IsThroughStop put_outside chain_outside f g e
  stop_of put_outside chain_outside (stop.Range n) (m, o, out) = (m, own_map m o, out)
  stop_of put_outside chain_outside stop.Memory h = tt

  module _ {T V W : Type 0} (map_eq : M → M → Bool) (is_put : M → A → A → Type 0) (is_chained : M → M → M → Type 0) (make : M → Label → Label) {label_of : V → Label} {holds : A → Label → Bool} (N : Meaning label_of holds W) (fits : A → Type 0) (map_fits : M → Type 0) (map_makes : T → M → Type 0)
      (same : (a : A) → N.equal a a ≡ true) where
    put_atom : (b : A) → runs.IsPutAtom map_eq is_put is_chained fits map_fits map_makes g r.term b → IsAtomBehind N.equal is_put f g b
    put_atom b (m, o, a, has, is) = (m, own_map m o, a, has, b, is, same b)

    module _ (h : Option Head) where
      run_map : (n : M) → map_fits n → IsRunMap map_eq is_put is_chained fits map_fits map_makes g r.term h n → IsThroughMap map_eq is_chained map_fits map_makes f g (h ≡ Some identity) n
      run_map n fit (inl (kept, m, o, e)) = record { fit = fit; source = inl (kept, m, own_map m o, e) }
      run_map n fit (inr (m, o, k, has, c, is, e, makes)) = record { fit = fit; source = inr (inl (m, own_map m o, k, has, c, is, e, makes)) }

      run_maps : (z : Option (WayTerm M)) → OnTerm (λ z. EveryMap map_fits (plain_way_term z)) z → OnTerm (λ z. EveryMap (IsRunMap map_eq is_put is_chained fits map_fits map_makes g r.term h) (plain_way_term z)) z
          → OnTerm (λ z. EveryMap (IsThroughMap map_eq is_chained map_fits map_makes f g (h ≡ Some identity)) (plain_way_term z)) z
      run_maps None fit all = tt
      run_maps (Some z) fit all = λ m o. run_map m (fit m o) (all m o)

      pub way_stands : (y : Way A M) → WayIsMade map_eq is_put is_chained fits map_fits map_makes g r.term h y → WayStands is_put make N fits f g (IsThroughMap map_eq is_chained map_fits map_makes f g (h ≡ Some identity)) y
      way_stands y is = record {
        fit = is.guard;
        atoms = every_map _ (IsAtomBehind N.equal is_put f g) put_atom (plain_formula y.guard) is.atoms;
        maps = run_maps y.term is.maps is.sources;
      }

-- the demanded states of a triple that has a state are states
pub triple_states : {A M : Type 0} (holds : A → Label → Bool) (make : M → Label → Label) (g : OutMachine A M) (x : Triple) → AreStates (transducer_of holds make g).looks x.all → All (λ s. s < length g.looks.rules) x.all
triple_states holds make g x are = each_to_all (λ s. s < length (transducer_of holds make g).looks) (λ s. s < length g.looks.rules) (λ s low. subst (λ n. s < n) (as_many_looks holds make g) low) x.all are
