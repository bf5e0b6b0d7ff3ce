-- What the transducer of a name shows of the name, once it is searched for meetings.
use Rattle.std.proofs.Common.{◌≡◌, ℕ, ◌<◌, ◌≤◌, ◌^◌, true, List, Option, map, Some, None, length, refl, sym, ap, subst, ◌∙◌}
use Rattle.std.specs.Option.{option_map, option_map_or}
use Rattle.model_tree.specs.Limits.{most_classes}
use Rattle.model_tree.specs.Signature.{Sort, PlainSignature, sorts_of}
use Rattle.model_program.specs.Syntax.{Name, TypeItem}
use Rattle.model_grammar.specs.Syntax.{named, TransItem, Item}
use Rattle.model_names.specs.Declared.{name_of, find_type, out_rules_of}
use Rattle.model_checks.specs.Programs.{is_well_formed}
use Rattle.model_checks.specs.Sound.{IsSound}
use Rattle.model_meaning.specs.Types.{signature_of, no_signature}
use Rattle.model_meaning.specs.Meaning.{signature_named}
use Rattle.model_meaning.specs.Reached.{Reaches}
use Rattle.model_run.specs.Parts.{IsFrom}
use Rattle.fast_tree.specs.declared.label.Label as code
use Rattle.lin_solve.specs.declared.chain.Chain.{Chain}
use Rattle.sta_classes.specs.declared.stop.ClassStop.{ClassStop}
use Rattle.sta_classes.specs.declared.stop.ClassStop.TheVariants.{Classes, Wide, Memory}
use Rattle.sttr_core.specs.declared.sttr.Trans.{Trans}
use Rattle.sttr_single.specs.Overlap.{IsOverlap, StopsOverlap}
use Rattle.sttr_single.specs.declared.meetings.Meeting as machine
use Rattle.sttr_single.specs.declared.meetings.OverlapFound.TheVariants.{Plain, Meets, TooBig}
use Rattle.record_label.specs.Meaning.{row_meaning}
use Rattle.record_label.specs.Rows.{RowAtom, RowFits}
use Rattle.record_label.specs.Maps.{EntriesFit}
use Rattle.record_label.specs.PlainMaps.{plain_entry}
use Rattle.sttr_core.specs.Fits.{LabelsFit}
use Rattle.record_label.specs.declared.maps.RowMap.{RowMap}
use Rattle.fast_build.specs.CarriedTrans.{same_maps, IsBuiltTransFor}
use Rattle.fast_build.specs.Transducer.{IsTransducerOf}
use Rattle.fast_build.specs.Transformations.{find_trans}
use Rattle.fast_compose.specs.declared.meetings.Met.TheVariants as met
use Rattle.fast_compose.specs.declared.stops.Meeting.{Meeting}
use Rattle.fast_compose.specs.Meetings.{IsMeetingFor, IsMet, StopsMeeting}
use Rattle.fast_compose.proofs.Named.{no_outs}
use Rattle.sttr_single.proofs.Stopping.{slice_in}
use Rattle.fast_compose.proofs.States.{goes_between, signature_is, none_meet, all_large, meeting_low, meeting_is}
use Rattle.fast_compose.proofs.Stopping.{StopsName, stops_name}

-- the signature of a type that is found
pub signature_found : (o : Option TypeItem) (s : PlainSignature) → Some s ≡ option_map signature_of o → s ≡ option_map_or signature_of o no_signature
signature_found None s e = absurd (cc)
signature_found (Some t) s e = let same : s ≡ signature_of t = cc in same

-- a type that is found has a signature
pub no_type : (o : Option TypeItem) (t : TypeItem) → None ≡ option_map signature_of o → o ≡ Some t → None ≡ Some t
no_type None t none found = found
no_type (Some s) t none found = absurd (cc)

-- the labels of the type of this name
pub labels_by : (items : List Item) (type : List ℕ) (sorts : List Sort) (s : PlainSignature) → sorts ≡ sorts_of s → Some s ≡ option_map signature_of (find_type items type) → sorts ≡ sorts_of (signature_named items (Some type))
labels_by items type sorts s own found = own ∙ ap sorts_of (signature_found (find_type items type) s found)

-- a name that isn't that of a transformation
pub none_met : (items : List Item) (whole : IsSound items) (name : List ℕ) → find_trans items name ≡ None → IsMet items (Reaches items name) met.Nowhere
none_met items whole name none t (q, reached, i, j, meet) = no_outs items whole name q meet.1 none reached (slice_in (out_rules_of items q) i meet.1 meet.3)

module _ (items : List Item) (well : is_well_formed items ≡ true) (name : List ℕ) (t : TransItem) (found : find_trans items name ≡ Some t) (sorts : List Sort) (labels : sorts ≡ sorts_of (signature_named items (Some t.from.text))) (names : List (List ℕ)) (d : Trans RowAtom RowMap)
    (is : IsTransducerOf items name names d.sttr) (carried : (n : Name) (from into : List ℕ) → n.text ≡ name → IsFrom items (named n) from into → IsBuiltTransFor items n from into names d.sttr d.state) where
  abbrev own : Name
  own = name_of name

  goes : IsFrom items (named own) t.from.text t.into.text
  goes = goes_between items well own t found

  built : IsBuiltTransFor items own t.from.text t.into.text names d.sttr d.state
  built = carried own t.from.text t.into.text refl goes

  -- its labels are those of the type
  pub fits_labels : LabelsFit (RowFits sorts) (λ m. EntriesFit sorts (map plain_entry m.entries.items)) d.sttr
  fits_labels =
      let same = labels ∙ ap sorts_of (signature_is items well own t.from.text t.into.text goes names d is built) in
      subst (λ s. LabelsFit (RowFits s) (λ m. EntriesFit s (map plain_entry m.entries.items)) d.sttr) (sym same) is.labels

  pub nowhere_by : (most : ℕ) → IsOverlap same_maps (row_meaning sorts) d.sttr most Plain → IsMet items (Reaches items name) met.Nowhere
  nowhere_by most none = none_meet items well own t.from.text t.into.text goes names d is built sorts labels none

  pub large_by : (most : ℕ) → IsOverlap same_maps (row_meaning sorts) d.sttr most TooBig → IsMet items (Reaches items name) met.TooLarge
  large_by most big = all_large items well own t.from.text t.into.text goes names d is built sorts labels most big

  module _ (most : ℕ) (m : machine.Meeting code.Label) (meets : IsOverlap same_maps (row_meaning sorts) d.sttr most (Meets m)) where
    pub numbers_low : (m.state < length names) × ((m.first < 2 ^ 32) × (m.second < 2 ^ 32))
    numbers_low = meeting_low items well own t.from.text t.into.text goes names d is built sorts labels most m meets

    pub meeting_by : most ≤ most_classes → (a : Meeting) → IsMeetingFor names t.from.text m a → IsMet items (Reaches items name) (met.At a)
    meeting_by few a same = meeting_is items well own t.from.text t.into.text goes names d is built sorts labels most m meets few a same

  -- whatever place the name has
  module _ (n : Name) (same : n.text ≡ name) where
    there : find_trans items n.text ≡ Some t
    there = subst (λ text. find_trans items text ≡ Some t) (sym same) found

    between : IsFrom items (named n) t.from.text t.into.text
    between = goes_between items well n t there

    by_name : (most : ℕ) (s : ClassStop Chain) → StopsOverlap same_maps (row_meaning sorts) d.sttr most s → StopsName items well n t there t.from.text t.into.text between names d (subst (λ text. IsTransducerOf items text names d.sttr) (sym same) is) (carried n t.from.text t.into.text same between) sorts labels most s
    by_name most s stop = stops_name items well n t there t.from.text t.into.text between names d (subst (λ text. IsTransducerOf items text names d.sttr) (sym same) is) (carried n t.from.text t.into.text same between) sorts labels most s stop

  pub stops_by : (most : ℕ) (s : ClassStop Chain) → StopsOverlap same_maps (row_meaning sorts) d.sttr most s → StopsMeeting items name most s
  stops_by most Classes stop = λ n same. by_name n same most Classes stop
  stops_by most (Wide c) stop = λ n same. by_name n same most (Wide c) stop
  stops_by most Memory stop = tt
