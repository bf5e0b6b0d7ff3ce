-- The comparisons and the maps of one transducer in place of two are those of the composition.
use Rattle.std.proofs.Common.{◌≡◌, ◌⊎◌, inl, inr, ℕ, Bool, List, [], ◌∷◌, map, Some, Contains, refl, sym, ap, subst, ◌∙◌}
use Rattle.std.specs.Prelude.{ℤ}
use Rattle.std.proofs.lemmas.List.Elements.{All-nil, All-cons, All-head, All-contains}
use Rattle.fast_fault.specs.declared.place.Pos.{Pos}
use Rattle.model_tree.specs.Formula.{Formula, yes, no, atom, negation, all_of, some_of, Formulas, no_formulas, formula, EveryAtom, EveryAtomOfAll}
use Rattle.model_grammar.specs.declared.Op2.TheVariants.{Compose}
use Rattle.model_grammar.specs.Syntax.{X, two, Item}
use Rattle.model_names.specs.Kinds.{output_of}
use Rattle.model_form.specs.Form.{Form}
use Rattle.model_form.specs.Sums.{subst_form}
use Rattle.model_form.specs.Ranges.{IsOutsideAfter}
use Rattle.model_layers.specs.Compared.{chained_forms, TransducerForms, IsChainOf, AreSameForms, AreComparedTrans, HasOutside}
use Rattle.model_layers.proofs.Chosen.{first_of, second_of}
use Rattle.model_layers.proofs.Compared.{compares_go_up, numbers_go_up}
use Rattle.label_core.specs.Formula.{atoms_in, atoms_in_all}
use Rattle.label_core.specs.declared.pair.PairAtom.TheVariants.{Left}
use Rattle.label_split.proofs.SameAtoms.{every_atom, all_atoms}
use Rattle.lin_solve.specs.declared.compare.Compare.{Compare}
use Rattle.lin_solve.specs.Plain.{plain_compare}
use Rattle.sta_theory.proofs.Lists.{first_in, later_in, in_left, in_right}
use Rattle.sttr_core.specs.Machine.{OutMachine}
use Rattle.sttr_core.specs.Fits.{MapsAre}
use Rattle.sttr_run.specs.Sources.{HasMap, GivesChild}
use Rattle.sttr_run.specs.declared.running.RunStop.TheVariants as run
use Rattle.sttr_preimage.specs.Results.{AtomsAre}
use Rattle.sttr_compose.specs.Results.{IsComposedAtom, IsComposedMap, IsComposeStop}
use Rattle.record_label.specs.Derived.{same_atoms}
use Rattle.record_label.specs.Maps.{Entry, number_by, truth_by, text_by, forms_of, formulas_in, put_atom, put_formula, put_formulas, put_entry, SomeOutside, IsOutsidePut, IsOutsideOf, IsOutsideOfSome, IsOutsideEntry}
use Rattle.record_label.specs.Written.{plain_written}
use Rattle.record_label.specs.Rows.{RowAtom}
use Rattle.record_label.specs.declared.maps.RowMap.{RowMap}
use Rattle.fast_build.proofs.Paired.{each_all}
use Rattle.fast_eval.specs.Built.{entries_of, HasTest, IsCompared, AreListed, AreTransCompared}
use Rattle.fast_eval.proofs.Put.{IsFine, AreFormsOf, one_map, one_listed, fine_equal, test_fine, equal_fine, equal_forms, row_is_put, row_outside, put_fine, put_outside, place_of, none, IsByEntries, atom_of, map_of}

abbrev pub row_is_chained : RowMap → RowMap → RowMap → Type 0
row_is_chained m n c = (entries_of c ≡ map (put_entry (entries_of m)) (entries_of n)) × (map plain_written c.written.items ≡ map plain_written n.written.items)

abbrev pub row_chain_outside : RowMap → RowMap → ℤ → Type 0
row_chain_outside m n = SomeOutside (IsOutsideEntry (entries_of m)) (entries_of n)

-- ---- formulas and forms with entries put

module _ (entries : List Entry) where
  module _ (P : RowAtom → Type 0) where
    mutual
      put_every : (f : Formula RowAtom) → ((a : RowAtom) → Contains (atoms_in f) a → EveryAtom P (put_atom entries a)) → EveryAtom P (put_formula entries f)
      put_every yes each = tt
      put_every no each = tt
      put_every (atom a) each = each a (first_in a [])
      put_every (negation f) each = put_every f each
      put_every (all_of fs) each = put_every_part fs each
      put_every (some_of fs) each = put_every_part fs each

      put_every_part : (fs : Formulas RowAtom) → ((a : RowAtom) → Contains (atoms_in_all fs) a → EveryAtom P (put_atom entries a)) → EveryAtomOfAll P (put_formulas entries fs)
      put_every_part no_formulas each = tt
      put_every_part (formula f fs) each = (put_every f (λ a at. each a (in_left (atoms_in f) (atoms_in_all fs) a at)), put_every_part fs (λ a at. each a (in_right (atoms_in f) (atoms_in_all fs) a at)))

  -- a number that is outside in a formula is so in an atom of it
  abbrev IsAtomOutside : List RowAtom → ℤ → Type 0
  IsAtomOutside atoms n = (a : RowAtom) × Contains atoms a × IsOutsidePut entries a n

  mutual
    outside_atom : (f : Formula RowAtom) (n : ℤ) → IsOutsideOf entries f n → IsAtomOutside (atoms_in f) n
    outside_atom yes n o = absurd o
    outside_atom no n o = absurd o
    outside_atom (atom a) n o = (a, first_in a [], o)
    outside_atom (negation f) n o = outside_atom f n o
    outside_atom (all_of fs) n o = outside_part fs n o
    outside_atom (some_of fs) n o = outside_part fs n o

    outside_part : (fs : Formulas RowAtom) (n : ℤ) → IsOutsideOfSome entries fs n → IsAtomOutside (atoms_in_all fs) n
    outside_part no_formulas n o = absurd o
    outside_part (formula f fs) n (inl o) = let (a, at, own) = outside_atom f n o in (a, in_left (atoms_in f) (atoms_in_all fs) a at, own)
    outside_part (formula f fs) n (inr o) = let (a, at, own) = outside_part fs n o in (a, in_right (atoms_in f) (atoms_in_all fs) a at, own)

  -- each formula of the entries that result is one with the entries put
  abbrev IsPutIn : List Entry → Formula RowAtom → Type 0
  IsPutIn es g = (h : Formula RowAtom) × Contains (formulas_in es) h × (put_formula entries h ≡ g)

  chained_formula : (es : List Entry) (g : Formula RowAtom) → Contains (formulas_in (map (put_entry entries) es)) g → IsPutIn es g
  chained_formula [] g at = absurd (none g at)
  chained_formula (number_by f ∷ es) g at = chained_formula es g at
  chained_formula (truth_by f ∷ es) g at = elim (place_of (put_formula entries f) (formulas_in (map (put_entry entries) es)) g at) [
    | inl same ↦ (f, first_in f (formulas_in es), same)
    | inr later ↦ (let (h, there, is) = chained_formula es g later in (h, later_in f h (formulas_in es) there, is))
  ]
  chained_formula (text_by s ∷ es) g at = chained_formula es g at

  chained_are : (es : List Entry) → forms_of (map (put_entry entries) es) ≡ chained_forms (forms_of entries) (forms_of es)
  chained_are [] = refl
  chained_are (number_by f ∷ es) = ap (λ fs. subst_form f (forms_of entries) ∷ fs) (chained_are es)
  chained_are (truth_by f ∷ es) = chained_are es
  chained_are (text_by s ∷ es) = chained_are es

  -- a number that is outside in an entry is so in its form, or in its formula
  abbrev IsEntryOutside : List Entry → ℤ → Type 0
  IsEntryOutside es n = ((h : Form) × Contains (forms_of es) h × IsOutsideAfter h (forms_of entries) n) ⊎ ((h : Formula RowAtom) × Contains (formulas_in es) h × IsOutsideOf entries h n)

  entry_outside : (es : List Entry) (n : ℤ) → SomeOutside (IsOutsideEntry entries) es n → IsEntryOutside es n
  entry_outside [] n o = absurd o
  entry_outside (number_by f ∷ es) n (inl o) = inl (f, first_in f (forms_of es), o)
  entry_outside (truth_by f ∷ es) n (inl o) = inr (f, first_in f (formulas_in es), o)
  entry_outside (text_by s ∷ es) n (inl o) = absurd o
  entry_outside (number_by f ∷ es) n (inr o) = by (entry_outside es n o)
    where
      by : IsEntryOutside es n → IsEntryOutside (number_by f ∷ es) n
      by (inl (h, there, own)) = inl (h, later_in f h (forms_of es) there, own)
      by (inr own) = inr own
  entry_outside (truth_by f ∷ es) n (inr o) = by (entry_outside es n o)
    where
      by : IsEntryOutside es n → IsEntryOutside (truth_by f ∷ es) n
      by (inl own) = inl own
      by (inr (h, there, own)) = inr (h, later_in f h (formulas_in es) there, own)
  entry_outside (text_by s ∷ es) n (inr o) = entry_outside es n o

-- ---- two transducers

module _ (items : List Item) (place : Pos) (x y : X) (from into last : List ℕ) (out : output_of items x ≡ Some into) (f g : OutMachine RowAtom RowMap)
    (first : AreTransCompared items x from into f) (second : AreTransCompared items y into last g) where
  abbrev whole : X
  whole = two Compose place x y

  put_there : (m : RowMap) → HasMap f m → (a : RowAtom) → HasTest g a → (p : RowAtom) → row_is_put m a p → IsFine items whole from p
  put_there = put_fine items whole x y from into (refl, refl) (first_of x (y ∷ [])) (second_of x y) out f first (HasTest g) second.compares

  outside_there : (m : RowMap) → HasMap f m → (a : RowAtom) → HasTest g a → (n : ℤ) → row_outside m a n → HasOutside items whole n
  outside_there = put_outside items whole x y from into (refl, refl) (first_of x (y ∷ [])) (second_of x y) out f first (HasTest g) second.compares

  own_fine : (a : RowAtom) → HasTest f a → IsFine items whole from a
  own_fine = test_fine items whole x from into f first (first_of x (y ∷ []))

  -- a number that stops the composition
  by_entry : (m k : RowMap) → HasMap f m → HasMap g k → (n : ℤ) → IsEntryOutside (entries_of m) (entries_of k) n → HasOutside items whole n
  by_entry m k has is n (inl (h, there, o)) =
      let ms = forms_of (entries_of m) in
      let ns = forms_of (entries_of k) in
      (numbers_go_up items).chained place x y from into last (one_map items ms) (one_map items ns) out (one_listed items whole x from into f first m has) (one_listed items whole y into last g second k is)
      ms ns (first_in ms []) (first_in ns []) h there n o
  by_entry m k has is n (inr (h, there, o)) = let (a, at, own) = outside_atom (entries_of m) h n o in outside_there m has a (inr (k, is, h, there, at)) n own

  pub compose_outside : (n : ℤ) → IsComposeStop row_outside row_chain_outside f g (run.Range n) → HasOutside items whole n
  compose_outside n (m, has, inl (a, is, o)) = outside_there m has a (inl is) n o
  compose_outside n (m, has, inr (k, is, o)) = by_entry m k has is n (entry_outside (entries_of m) (entries_of k) n o)

  module _ (one : GivesChild f → from ≡ into) where
    -- an atom of the second as it is
    unchanged_fine : GivesChild f → (a : RowAtom) → HasTest g a → IsFine items whole from a
    unchanged_fine gives a has = subst (λ t. IsFine items whole t a) (sym (one gives)) (test_fine items whole y into last g second (second_of x y) a has)

    atom_fine : (b : RowAtom) → IsComposedAtom same_atoms row_is_put f g b → IsFine items whole from b
    atom_fine b (inl (a, has, same)) = fine_equal items whole from a b same (own_fine a (inl has))
    atom_fine b (inr (inl (m, has, a, is, p, put, same))) = fine_equal items whole from p b same (put_there m has a (inl is) p put)
    atom_fine b (inr (inr (gives, a, is, same))) = fine_equal items whole from a b same (unchanged_fine gives a (inl is))

    module _ (map_eq : RowMap → RowMap → Bool) (by_entries : IsByEntries map_eq) (also : GivesChild g → into ≡ last) where
      -- an atom of a formula of a map of the second after one of the first
      chained_fine : (m k c : RowMap) → HasMap f m → HasMap g k → row_is_chained m k c → (h : Formula RowAtom) → Contains (formulas_in (entries_of c)) h → (a : RowAtom) → Contains (atoms_in h) a → IsFine items whole from a
      chained_fine m k c has is chained h there a in_h =
          let P = IsFine items whole from in
          let (h', in_k, put) = chained_formula (entries_of m) (entries_of k) h (subst (λ es. Contains (formulas_in es) h) chained.0 there) in
          let every = put_every (entries_of m) P h' (λ b at. every_atom P (put_atom (entries_of m) b) (each_all P (atoms_in (put_atom (entries_of m) b)) (λ p own. put_there m has b (inr (k, is, h', in_k, at)) p own))) in
          All-contains P (atoms_in h) a (all_atoms P h (subst (EveryAtom P) put every)) in_h

      map_fine : (n : RowMap) → IsComposedMap map_eq row_is_chained f g n → (h : Formula RowAtom) → Contains (formulas_in (entries_of n)) h → (a : RowAtom) → Contains (atoms_in h) a → IsFine items whole from a
      map_fine n (inl (m, has, k, is, c, chained, same)) = equal_fine items whole from c n (by_entries c n same) (chained_fine m k c has is chained)
      map_fine n (inr (inl (gives, m, has, same))) = equal_fine items whole from m n (by_entries m n same) (λ h there a at. own_fine a (inr (m, has, h, there, at)))
      map_fine n (inr (inr (gives, k, is, same))) = equal_fine items whole from k n (by_entries k n same) (λ h there a at. unchanged_fine gives a (inr (k, is, h, there, at)))

      -- the forms of a map
      listed : (a b : TransducerForms) → AreComparedTrans items x from into a → AreComparedTrans items y into last b → (ks : List Form) → IsChainOf (from ≡ into) (into ≡ last) a b ks → AreFormsOf items whole from last ks
      listed a b own other ks chain =
          All-head (AreFormsOf items whole from last) ks []
          ((compares_go_up items).chained place x y from into last a b (ks ∷ []) out own other (All-cons (IsChainOf (from ≡ into) (into ≡ last) a b) ks [] chain (All-nil (IsChainOf (from ≡ into) (into ≡ last) a b))))

      abbrev no_maps : TransducerForms
      no_maps = record { compares = []; maps = [] }

      none_listed : (e : X) (start end : List ℕ) → AreComparedTrans items e start end no_maps
      none_listed e start end = record { compares = All-nil (IsCompared items e start); maps = All-nil (AreFormsOf items e start end) }

      map_listed : (n : RowMap) → IsComposedMap map_eq row_is_chained f g n → AreListed items whole from last n
      map_listed n (inl (m, has, k, is, c, chained, same)) =
          let ms = forms_of (entries_of m) in
          let ns = forms_of (entries_of k) in
          let forms : forms_of (entries_of c) ≡ chained_forms ms ns = ap forms_of chained.0 ∙ chained_are (entries_of m) (entries_of k) in
          listed (one_map items ms) (one_map items ns) (one_listed items whole x from into f first m has) (one_listed items whole y into last g second k is) (forms_of (entries_of n))
          (inl (ms, ns, first_in ms [], first_in ns [], subst (λ fs. AreSameForms fs (forms_of (entries_of n))) forms (equal_forms c.entries.items n.entries.items (by_entries c n same))))
      map_listed n (inr (inl (gives, m, has, same))) =
          let ms = forms_of (entries_of m) in
          listed (one_map items ms) no_maps (one_listed items whole x from into f first m has) (none_listed y into last) (forms_of (entries_of n))
          (inr (inl (also gives, ms, first_in ms [], equal_forms m.entries.items n.entries.items (by_entries m n same))))
      map_listed n (inr (inr (gives, k, is, same))) =
          let ns = forms_of (entries_of k) in
          listed no_maps (one_map items ns) (none_listed x from into) (one_listed items whole y into last g second k is) (forms_of (entries_of n))
          (inr (inr (one gives, ns, first_in ns [], equal_forms k.entries.items n.entries.items (by_entries k n same))))

      pub composed_compared : (c : OutMachine RowAtom RowMap) → AtomsAre (IsComposedAtom same_atoms row_is_put f g) c → MapsAre (IsComposedMap map_eq row_is_chained f g) c → AreTransCompared items whole from last c
      composed_compared c atoms maps = record { compares = tests; maps = λ n has. map_listed n (map_of (IsComposedMap map_eq row_is_chained f g) c maps n has) }
        where
          tests : (k : Compare) → HasTest c (Left k) → IsCompared items whole from (plain_compare k)
          tests k (inl own) = atom_fine (Left k) (atom_of (IsComposedAtom same_atoms row_is_put f g) c atoms (Left k) own)
          tests k (inr (n, has, h, there, at)) = map_fine n (map_of (IsComposedMap map_eq row_is_chained f g) c maps n has) h there (Left k) at
