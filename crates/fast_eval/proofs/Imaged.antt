-- What is made of what was built for a transformation, for a transformation and a language, or for two transformations, is built
-- for the whole expression.
use Rattle.std.proofs.Common.{◌≡◌, ◌⊎◌, inl, inr, ◌<◌, ℕ, Bool, List, [], ◌∷◌, Some, map, length, get_or, Contains, refl, sym, ap, subst, ◌∙◌, arith}
use Rattle.std.proofs.lemmas.List.{length-map, get_or_default}
use Rattle.fast_fault.specs.declared.place.Pos.{Pos}
use Rattle.model_tree.specs.Tree.{LabelTree}
use Rattle.model_tree.specs.Signature.{PlainSignature, Sort, HasSorts, ranks_of, sorts_of}
use Rattle.model_grammar.specs.declared.Op1.TheVariants.{Domain}
use Rattle.model_grammar.specs.declared.Op2.TheVariants.{PreImage, Compose, Restrict, RestrictOut}
use Rattle.model_grammar.specs.Syntax.{X, one, two, Item}
use Rattle.model_meaning.specs.Meaning.{signature_named}
use Rattle.model_sta.specs.Sets.{Fits}
use Rattle.model_run.specs.Plain.{of_first, of_second, of_restricted, of_out_restricted}
use Rattle.model_sttr.specs.Transducer.{Head, identity, run, Gives, IsHead}
use Rattle.model_sttr.specs.Operations.{DomainKeepsGuards, PreImageKeepsGuards, RestrictionKeepsGuards, OutRestrictionKeepsGuards, CompositionKeepsGuards, KeepsMaps, ChainsMaps}
use Rattle.model_sttr.proofs.Heads.{identity_eq}
use Rattle.model_sttr.proofs.Single.{restriction_functional, out_restriction_functional, composition_functional}
use Rattle.model_layers.specs.Carries.{IsTyped}
use Rattle.model_layers.proofs.CarryTrans.{operations_carry}
use Rattle.model_layers.proofs.Chosen as chosen
use Rattle.model_layers.proofs.Sight.{transformations_are_seen}
use Rattle.label_core.specs.declared.pair.PairAtom.TheVariants.{Left}
use Rattle.lin_solve.specs.declared.compare.Compare.{Compare}
use Rattle.lin_solve.specs.Plain.{plain_compare}
use Rattle.sta_core.specs.Sta.{AtomsFit}
use Rattle.sta_core.specs.declared.Lang.{Lang}
use Rattle.sta_ops.specs.Languages.{auto_of}
use Rattle.sta_theory.proofs.Lists.{in_map}
use Rattle.sttr_core.specs.Fits.{MapsAre, LabelsFit}
use Rattle.sttr_core.specs.declared.sttr.Trans.{Trans}
use Rattle.sttr_core.proofs.Meaning.{meaning_of, rules_meant}
use Rattle.sttr_run.specs.Sources.{HasAtom, GivesChild}
use Rattle.sttr_run.specs.declared.running.RunStop.{RunStop}
use Rattle.sttr_run.specs.declared.running.RunStop.TheVariants as stop
use Rattle.sttr_preimage.specs.Results.{HasDomain, HasPreImage, IsRestricted, IsOutRestricted, IsImageAtom, IsOldAtom, IsAskedAtom, IsLanguageFrom, IsTransFrom, IsTransPutFrom, IsImageStop, MakesSome, MakesAsked, StandsUnchanged}
use Rattle.sttr_compose.specs.Results.{MakesFor, SpeaksOfFirst, CanCompose, IsComposed, IsTransThrough, IsComposeStop}
use Rattle.record_label.specs.Derived.{same_atoms}
use Rattle.record_label.specs.Maps.{EntriesFit, sort_by}
use Rattle.record_label.specs.Meaning.{row_meaning}
use Rattle.record_label.specs.declared.maps.RowMap.{RowMap}
use Rattle.record_label.specs.Rows.{RowAtom, row_holds, RowFits}
use Rattle.fast_build.specs.Terms.{row_make}
use Rattle.fast_eval.specs.Built.{entries_of, trans_of, IsCompared, IsBuiltOf, IsTransBuiltOf}
use Rattle.fast_eval.specs.Scopes.{LooksAt, RunsAfter}
use Rattle.fast_eval.specs.Stops.{StopsExpression, by_run}
use Rattle.fast_eval.proofs.Chained.{row_is_chained, row_chain_outside, composed_compared, compose_outside}
use Rattle.fast_eval.proofs.Narrower.{domain, pre_image, restriction, out_restriction, composition}
use Rattle.fast_eval.proofs.Put.{row_is_put, row_outside, IsByEntries, old_compared, asked_compared, image_compared, image_outside, machine_compared, trans_compared}
use Rattle.fast_eval.proofs.TransStands.{occurs_with}
use Rattle.fast_eval.proofs.Typed.{fits_from_type, type_from_fits}

abbrev pub map_fits : List Sort → RowMap → Type 0
map_fits sorts m = EntriesFit sorts (entries_of m)

abbrev pub map_makes : List Sort → RowMap → Type 0
map_makes sorts m = map sort_by (entries_of m) ≡ sorts

-- its start is a state
pub trans_low : (items : List Item) (f : X) (from into : List ℕ) (a : Trans RowAtom RowMap) → IsTransBuiltOf items f from into a → a.state < length a.sttr.rules
trans_low items f from into a built = subst (λ n. a.state < n) (length-map a.sttr.rules (map (meaning_of row_holds row_make))) built.carries.in_range

-- where a child is given as it is, the types are one
one_type : (items : List Item) (f : X) (from into : List ℕ) (a : Trans RowAtom RowMap) → IsTransBuiltOf items f from into a → GivesChild a.sttr → from ≡ into
one_type items f from into a built (those, (k, low, same), r, there, j, occurs) =
    let among = subst (λ rs. Contains rs r) (sym (get_or_default a.sttr.rules k [] those low ∙ same)) there in
    let meant = subst (λ rs. Contains rs (meaning_of row_holds row_make r)) (sym (rules_meant row_holds row_make a.sttr k)) (in_map (meaning_of row_holds row_make) (get_or a.sttr.rules k []) r among) in
    built.carries.gives_same (k, meaning_of row_holds row_make r, meant, j, occurs_with row_make identity j r.term occurs)

-- what a head gives on a tree of the type of inputs has that of outputs
typed_by_head : (items : List Item) (f : X) (from into : List ℕ) (a : Trans RowAtom RowMap) → IsTransBuiltOf items f from into a → (h : Head) → IsHead (trans_of a).sttr h → (t u : LabelTree) → IsTyped items from t → Gives (trans_of a).sttr h t u → IsTyped items into u
typed_by_head items f from into a built identity same t u typed gives = subst (λ type. IsTyped items type u) (built.carries.gives_same same) (subst (IsTyped items from) (identity_eq (trans_of a).sttr t u gives) typed)
typed_by_head items f from into a built (run q) low t u typed gives = built.carries.typed q t u low typed gives

module _ (items : List Item) (from : List ℕ) (sorts : List Sort) (is : sorts ≡ sorts_of (signature_named items (Some from))) where
  abbrev signature : PlainSignature
  signature = signature_named items (Some from)

  -- ---- what the operations need

  module _ (f : X) (into : List ℕ) (a : Trans RowAtom RowMap) (built : IsTransBuiltOf items f from into a) where
    pub trans_labels : LabelsFit (RowFits sorts) (map_fits sorts) a.sttr
    trans_labels = subst (λ s. LabelsFit (RowFits s) (map_fits s) a.sttr) (sym is) built.labels

    within_back : (t : LabelTree) → Fits a.sttr.looks.ranks (HasSorts sorts) t → IsTyped items from t
    within_back t h = type_from_fits signature t (subst (λ ranks. Fits ranks (HasSorts (sorts_of signature)) t) built.ranks (subst (λ s. Fits a.sttr.looks.ranks (HasSorts s) t) is h))

    pub makes_some : MakesSome map_makes a.sttr
    makes_some = (sorts_of (signature_named items (Some into)), built.made)

    -- a tree of the type is one over the constructors and labels of the transducer
    within : (t : LabelTree) → IsTyped items from t → Fits a.sttr.looks.ranks (HasSorts sorts) t
    within t h = subst (λ s. Fits a.sttr.looks.ranks (HasSorts s) t) (sym is) (subst (λ ranks. Fits ranks (HasSorts (sorts_of signature)) t) (sym built.ranks) (fits_from_type signature t h))

    module _ (y : X) (b : Lang RowAtom) (other : IsBuiltOf items y into b) where
      pub makes_asked : MakesAsked RowFits map_makes a.sttr b.sta
      makes_asked = (sorts_of (signature_named items (Some into)), built.made, other.fit)

      pub stands_unchanged : StandsUnchanged (RowFits sorts) a.sttr b.sta
      stands_unchanged gives = record {
        ranks = other.ranks ∙ (ap (λ t. ranks_of (signature_named items (Some t))) (sym (one_type items f from into a built gives)) ∙ sym built.ranks);
        fit = subst (λ s. AtomsFit (RowFits s) b.sta) (ap (λ t. sorts_of (signature_named items (Some t))) (sym (one_type items f from into a built gives)) ∙ sym is) other.fit;
      }

  -- ---- the inputs with an output

  no_atoms : (a : RowAtom) → HasAtom [] a → ⊥
  no_atoms a (those, at, r, there, own) = omega (arith, at.1)

  pub domain_built : (place : Pos) (f : X) (into : List ℕ) (a : Trans RowAtom RowMap) → IsTransBuiltOf items f from into a → (c : Lang RowAtom) → HasDomain row_make (row_meaning sorts) a c → IsLanguageFrom row_is_put (row_meaning sorts) (RowFits sorts) a.sttr [] c
      → IsBuiltOf items (one Domain place f) from c
  domain_built place f into a built c has made = record {
    carries = (operations_carry items place f f from into).domain (trans_of a) (auto_of row_holds c) built.carries (domain (Fits a.sttr.looks.ranks (HasSorts sorts)) (IsTyped items from) (within f into a built) (trans_of a) (auto_of row_holds c) has.exact);
    seen = (transformations_are_seen items place f f from into).domain (trans_of a) (auto_of row_holds c) built.seen (subst (λ s. DomainKeepsGuards (HasSorts s) (trans_of a) (auto_of row_holds c)) is has.guards);
    compared = machine_compared items (one Domain place f) from c.sta (IsImageAtom same_atoms a.sttr [] row_is_put) compares made.atoms;
    ranks = made.ranks ∙ built.ranks;
    fit = subst (λ s. AtomsFit (RowFits s) c.sta) is made.fit;
  }
    where
      compares : (k : Compare) → IsImageAtom same_atoms a.sttr [] row_is_put (Left k) → IsCompared items (one Domain place f) from (plain_compare k)
      compares k (inl old) = old_compared items (one Domain place f) f from into a.sttr built.compared (chosen.first_of f []) [] k old
      compares k (inr (inl (m, has_m, b, asked, d, put, same))) = absurd (no_atoms b asked)
      compares k (inr (inr (gives, own))) = absurd (no_atoms own.0 own.1)

  -- ---- of a language of outputs

  module _ (place : Pos) (f y : X) (into : List ℕ) (a : Trans RowAtom RowMap) (b : Lang RowAtom) (looks : LooksAt items f y from into a b) where
    abbrev first : IsTransBuiltOf items f from into a
    first = looks.first

    abbrev second : IsBuiltOf items y into b
    second = looks.second

    pub pre_image_built : (c : Lang RowAtom) → HasPreImage row_make (row_meaning sorts) a b c → IsLanguageFrom row_is_put (row_meaning sorts) (RowFits sorts) a.sttr b.sta.rules c → IsBuiltOf items (two PreImage place f y) from c
    pre_image_built c has made = record {
      carries = (operations_carry items place f y from into).pre_image (trans_of a) (auto_of row_holds b) (auto_of row_holds c) first.carries second.carries
          (pre_image (Fits a.sttr.looks.ranks (HasSorts sorts)) (IsTyped items from) (within f into a first) (trans_of a) (auto_of row_holds b) (auto_of row_holds c) has.exact);
      seen = (transformations_are_seen items place f y from into).pre_image (trans_of a) (auto_of row_holds b) (auto_of row_holds c) first.seen second.seen (subst (λ s. PreImageKeepsGuards (HasSorts s) (trans_of a) (auto_of row_holds b) (auto_of row_holds c)) is has.guards);
      compared = machine_compared items (two PreImage place f y) from c.sta (IsImageAtom same_atoms a.sttr b.sta.rules row_is_put)
          (image_compared items (two PreImage place f y) f y from into (refl, refl) (chosen.first_of f (y ∷ [])) (chosen.second_of f y) first.carries.goes.2 a.sttr first.compared b.sta second.compared (one_type items f from into a first)) made.atoms;
      ranks = made.ranks ∙ first.ranks;
      fit = subst (λ s. AtomsFit (RowFits s) c.sta) is made.fit;
    }

    pub pre_image_stops : (most : ℕ) (s : RunStop) → IsImageStop row_outside a.sttr b.sta.rules s → StopsExpression items (two PreImage place f y) most (by_run s)
    pre_image_stops most (stop.Range n) stop =
        (refl, image_outside items (two PreImage place f y) f y from into (refl, refl) (chosen.first_of f (y ∷ [])) (chosen.second_of f y) first.carries.goes.2 a.sttr first.compared b.sta second.compared n stop)
    pre_image_stops most stop.Memory stop = tt

    module _ (map_eq : RowMap → RowMap → Bool) (by_entries : IsByEntries map_eq) where
      pub out_restriction_built : (c : Trans RowAtom RowMap) → IsOutRestricted row_make (row_meaning sorts) a b c → IsTransPutFrom map_eq row_is_put (row_meaning sorts) (RowFits sorts) (map_fits sorts) map_makes a.sttr b.sta.rules c → IsTransBuiltOf items (two RestrictOut place f y) from into c
      out_restriction_built c has made =
          let exact = out_restriction (Fits a.sttr.looks.ranks (HasSorts sorts)) (IsTyped items from) (within f into a first) (trans_of a) (auto_of row_holds b) (trans_of c) has.exact in
          record {
            carries = (operations_carry items place f y from into).restrict_out (trans_of a) (auto_of row_holds b) (trans_of c) first.carries second.carries exact;
            seen = (transformations_are_seen items place f y from into).restrict_out (trans_of a) (auto_of row_holds b) (trans_of c) first.seen second.seen (subst (λ s. OutRestrictionKeepsGuards (HasSorts s) (trans_of a) (auto_of row_holds b) (trans_of c)) is has.guards)
                (subst (λ s. KeepsMaps (HasSorts s) (trans_of a) (trans_of c)) is has.maps) exact.gives_same;
            compared = trans_compared items (two RestrictOut place f y) f from into (chosen.first_of f (y ∷ [])) a.sttr first.compared map_eq by_entries c.sttr made.maps (IsImageAtom same_atoms a.sttr b.sta.rules row_is_put)
                (image_compared items (two RestrictOut place f y) f y from into (refl, refl) (chosen.first_of f (y ∷ [])) (chosen.second_of f y) first.carries.goes.2 a.sttr first.compared b.sta second.compared (one_type items f from into a first)) made.atoms;
            ranks = made.ranks ∙ first.ranks;
            stands = made.stands;
            labels = subst (λ s. LabelsFit (RowFits s) (map_fits s) c.sttr) is made.labels;
            made = made.makes (sorts_of (signature_named items (Some into))) first.made;
            plain = λ plain. out_restriction_functional (IsTyped items from) (trans_of a) (first.plain (λ some. plain (of_out_restricted place f y some))) (trans_of c) (auto_of row_holds b) exact;
            linear = λ linear. has.linear (first.linear (λ some. linear (of_out_restricted place f y some)));
          }

    pub out_restriction_stops : (most : ℕ) (s : RunStop) → IsImageStop row_outside a.sttr b.sta.rules s → StopsExpression items (two RestrictOut place f y) most (by_run s)
    out_restriction_stops most (stop.Range n) stop =
        (refl, image_outside items (two RestrictOut place f y) f y from into (refl, refl) (chosen.first_of f (y ∷ [])) (chosen.second_of f y) first.carries.goes.2 a.sttr first.compared b.sta second.compared n stop)
    out_restriction_stops most stop.Memory stop = tt

  -- ---- of a language of inputs

  pub same_trees : (f y : X) (into : List ℕ) (a : Trans RowAtom RowMap) (b : Lang RowAtom) → IsTransBuiltOf items f from into a → IsBuiltOf items y from b → b.sta.ranks ≡ a.sttr.looks.ranks
  same_trees f y into a b own also = also.ranks ∙ sym own.ranks

  module _ (place : Pos) (f y : X) (into : List ℕ) (a : Trans RowAtom RowMap) (b : Lang RowAtom) (own : IsTransBuiltOf items f from into a) (also : IsBuiltOf items y from b) where
    module _ (map_eq : RowMap → RowMap → Bool) (by_entries : IsByEntries map_eq) where
      pub restriction_built : (c : Trans RowAtom RowMap) → IsRestricted row_make (row_meaning sorts) a b c → IsTransFrom map_eq (row_meaning sorts) (RowFits sorts) (map_fits sorts) map_makes a.sttr b.sta.rules c → IsTransBuiltOf items (two Restrict place f y) from into c
      restriction_built c has made =
          let exact = restriction (Fits a.sttr.looks.ranks (HasSorts sorts)) (IsTyped items from) (within f into a own) (trans_of a) (auto_of row_holds b) (trans_of c) has.exact in
          record {
            carries = (operations_carry items place f y from into).restrict (trans_of a) (auto_of row_holds b) (trans_of c) own.carries also.carries exact;
            seen = (transformations_are_seen items place f y from into).restrict (trans_of a) (auto_of row_holds b) (trans_of c) own.seen also.seen (subst (λ s. RestrictionKeepsGuards (HasSorts s) (trans_of a) (auto_of row_holds b) (trans_of c)) is has.guards)
                (subst (λ s. KeepsMaps (HasSorts s) (trans_of a) (trans_of c)) is has.maps) exact.gives_same;
            compared = trans_compared items (two Restrict place f y) f from into (chosen.first_of f (y ∷ [])) a.sttr own.compared map_eq by_entries c.sttr made.maps (λ k. IsOldAtom same_atoms a.sttr b.sta.rules k ⊎ IsAskedAtom same_atoms a.sttr b.sta.rules k) compares made.atoms;
            ranks = made.ranks ∙ own.ranks;
            stands = made.stands;
            labels = subst (λ s. LabelsFit (RowFits s) (map_fits s) c.sttr) is made.labels;
            made = made.makes (sorts_of (signature_named items (Some into))) own.made;
            plain = λ plain. restriction_functional (IsTyped items from) (trans_of a) (own.plain (λ some. plain (of_restricted place f y some))) (trans_of c) (auto_of row_holds b) exact;
            linear = λ linear. has.linear (own.linear (λ some. linear (of_restricted place f y some)));
          }
        where
          compares : (k : Compare) → IsOldAtom same_atoms a.sttr b.sta.rules (Left k) ⊎ IsAskedAtom same_atoms a.sttr b.sta.rules (Left k) → IsCompared items (two Restrict place f y) from (plain_compare k)
          compares k (inl old) = old_compared items (two Restrict place f y) f from into a.sttr own.compared (chosen.first_of f (y ∷ [])) b.sta.rules k old
          compares k (inr asked) = asked_compared items (two Restrict place f y) f from into a.sttr own.compared y from b.sta also.compared (chosen.second_of f y) k asked

  -- ---- of two transformations

  module _ (f g : X) (into last : List ℕ) (a b : Trans RowAtom RowMap) (runs : RunsAfter items f g from into last a b) where
    pub makes_for : MakesFor RowFits map_fits map_makes a.sttr b.sttr
    makes_for = (sorts_of (signature_named items (Some into)), runs.first.made, runs.second.labels)

    pub speaks_of_first : GivesChild a.sttr → SpeaksOfFirst (RowFits sorts) (map_fits sorts) a.sttr b.sttr
    speaks_of_first gives =
        let same = one_type items f from into a runs.first gives in
        record {
          ranks = runs.second.ranks ∙ (ap (λ t. ranks_of (signature_named items (Some t))) (sym same) ∙ sym runs.first.ranks);
          labels = subst (λ s. LabelsFit (RowFits s) (map_fits s) b.sttr) (ap (λ t. sorts_of (signature_named items (Some t))) (sym same) ∙ sym is) runs.second.labels;
        }

    pub can_compose : CanCompose row_holds row_make (HasSorts sorts) a.sttr b.sttr
    can_compose = elim runs.can [
      | inl plain ↦ inl (λ q t u v fits. runs.first.plain plain q t u v (within_back f into a runs.first t fits))
      | inr linear ↦ inr (runs.second.linear linear)
    ]

    pub composition_stops : (place : Pos) (most : ℕ) (s : RunStop) → IsComposeStop row_outside row_chain_outside a.sttr b.sttr s → StopsExpression items (two Compose place f g) most (by_run s)
    composition_stops place most (stop.Range n) h = (refl, compose_outside items place f g from into last runs.first.carries.goes.2 a.sttr b.sttr runs.first.compared runs.second.compared n h)
    composition_stops place most stop.Memory h = tt

    module _ (map_eq : RowMap → RowMap → Bool) (by_entries : IsByEntries map_eq) where
      pub composition_built : (place : Pos) (c : Trans RowAtom RowMap) → IsComposed row_make (row_meaning sorts) a b c → IsTransThrough map_eq row_is_put row_is_chained (row_meaning sorts) (RowFits sorts) (map_fits sorts) map_makes a.sttr b.sttr c → IsTransBuiltOf items (two Compose place f g) from last c
      composition_built place c has made =
          let exact = composition (Fits a.sttr.looks.ranks (HasSorts sorts)) (IsTyped items from) (within f into a runs.first) (trans_of a) (trans_of b) (trans_of c) has.exact in
          record {
            carries = (operations_carry items place f g from into).compose last (trans_of a) (trans_of b) (trans_of c) runs.first.carries runs.second.carries exact;
            seen = (transformations_are_seen items place f g from into).compose last (trans_of a) (trans_of b) (trans_of c) runs.first.seen runs.second.seen
                (subst (λ s. CompositionKeepsGuards (HasSorts s) (trans_of a) (trans_of b) (trans_of c)) is has.guards) (subst (λ s. ChainsMaps (HasSorts s) (trans_of a) (trans_of b) (trans_of c)) is has.maps) exact.gives_same;
            compared = composed_compared items place f g from into last runs.first.carries.goes.2 a.sttr b.sttr runs.first.compared runs.second.compared (one_type items f from into a runs.first) map_eq by_entries (one_type items g into last b runs.second) c.sttr made.atoms made.maps;
            ranks = made.ranks ∙ runs.first.ranks;
            stands = made.stands;
            labels = subst (λ s. LabelsFit (RowFits s) (map_fits s) c.sttr) is made.labels;
            made = made.makes (sorts_of (signature_named items (Some last))) runs.second.made (λ gives. subst (λ t. MapsAre (map_makes (sorts_of (signature_named items (Some t)))) a.sttr) (one_type items g into last b runs.second gives) runs.first.made);
            plain = λ plain. composition_functional (IsTyped items from) (trans_of a) (runs.first.plain (λ some. plain (of_first place f g some))) (trans_of c) (IsTyped items into) (typed_by_head items f from into a runs.first) (trans_of b) (runs.second.plain (λ some. plain (of_second place f g some))) exact;
            linear = λ linear. has.linear (runs.first.linear (λ some. linear (of_first place f g some))) (runs.second.linear (λ some. linear (of_second place f g some)));
          }
