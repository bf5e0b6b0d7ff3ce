-- What is gathered for a transformation, as the code holds it.
use Rattle.std.proofs.Common.{◌≡◌, true, List, ℕ, Option, Some, None, map, refl, sym, ◌∙◌}
use Rattle.std.specs.Prelude.{is_some}
use Rattle.std.proofs.lemmas.Simd.{map-map}
use Rattle.model_grammar.specs.Syntax.{LangItem, TransItem, Item}
use Rattle.fast_syntax.specs.Plain.{plain_lang, plain_trans}
use Rattle.fast_build.specs.declared.called.Called.{Called}
use Rattle.fast_build.specs.declared.reached.Reached.{Reached}
use Rattle.fast_build.specs.Called.{AreLooked, IsCalled, IsGathered}
use Rattle.fast_build.specs.Transformations.{find_trans}
use Rattle.fast_build.proofs.WholeTrans.{AreGathered}

abbrev pub transformations_of : Called → List TransItem
transformations_of c = map (λ t. plain_trans t.now) c.transformations.items

abbrev pub langs_of : Reached → List LangItem
langs_of r = map (λ l. plain_lang l.now) r.langs.items

some_there : (o : Option TransItem) → is_some o ≡ true → (t : TransItem) × (o ≡ Some t)
some_there None e = absurd (cc)
some_there (Some t) e = (t, refl)

pub own_trans : (items : List Item) (name : List ℕ) → is_some (find_trans items name) ≡ true → TransItem
own_trans items name there = (some_there (find_trans items name) there).0

pub own_found : (items : List Item) (name : List ℕ) (there : is_some (find_trans items name) ≡ true) → find_trans items name ≡ Some (own_trans items name there)
unfolding own_trans
own_found items name there = (some_there (find_trans items name) there).1

pub founds_of : (items : List Item) (name : List ℕ) (c : Called) → IsCalled items name c → map (find_trans items) c.names.keys ≡ map (λ x. Some x) (transformations_of c)
founds_of items name c is = is.transformations ∙ sym (map-map (λ t. Some t) (λ t. plain_trans t.now) c.transformations.items)

pub gathered : (items : List Item) (name : List ℕ) (there : is_some (find_trans items name) ≡ true) (c : Called) (seeds : List (List ℕ)) (r : Reached) → IsCalled items name c → AreLooked (transformations_of c) seeds → IsGathered items seeds r
    → AreGathered items name (own_trans items name there) c.names.keys (transformations_of c) seeds r.names.keys (langs_of r)
gathered items name there c seeds r is looked whole = record {
  found = own_found items name there;
  reached = is.reached;
  closed = is.closed;
  once = is.once;
  founds = founds_of items name c is;
  seeded = looked;
  kept = whole.kept;
  from_seeds = whole.reached;
  closed_looks = whole.closed;
  once_looks = whole.once;
  founds_looks = whole.langs ∙ sym (map-map (λ l. Some l) (λ l. plain_lang l.now) r.langs.items);
}
