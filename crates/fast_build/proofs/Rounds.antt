-- The rounds in which the languages that a language reaches are gathered.
use Rattle.std.proofs.Common.{◌≡◌, ℕ, zero, suc, ◌+◌, ◌<◌, ◌≤◌, true, inl, inr, ◌⊎◌, List, [], ◌∷◌, ◌++◌, Option, Some, None, map, take, length, get_or, All, Contains, refl, sym, ap, subst, ◌∙◌, add-one, arith}
use Rattle.std.specs.Prelude.{is_some}
use Rattle.std.specs.List.{IsDistinct}
use Rattle.std.specs.Cmp.{IsEquivalence}
use Rattle.std.proofs.lemmas.List.{length-append, length-map, map-append, take-append-le}
use Rattle.std.proofs.lemmas.List.Elements.{All-nil, All-cons, All-append, Contains-append_left, Contains-append_right, Contains-get_or, All-contains}
use Rattle.std.proofs.lemmas.Map.Made.{length-le_from_is_member}
use Rattle.std.proofs.Math.Seq.{take-suc}
use Rattle.model_program.specs.Syntax.{Demand}
use Rattle.model_grammar.specs.Syntax.{Rule, LangItem, Item}
use Rattle.model_names.specs.Declared.{same_text, rules_of}
use Rattle.model_meaning.specs.Reached.{Reaches, itself, by_demand}
use Rattle.fast_build.specs.Items.{find_lang}
use Rattle.fast_build.proofs.Stands.{AllStand}
use Rattle.fast_build.specs.Reached.{demanded_by, demanded_in, IsGrown, AreReached, AreClosed}
use Rattle.fast_build.proofs.Reaching.{reached_of}
use Rattle.fast_build.proofs.Declaring.{own_text, lang_declared}
use Rattle.fast_build.proofs.Grown.{test_by_there, there_by_test}

-- who demands a language
record IsDemanded (rules : List Rule) (name : List ℕ) : Type 0 where
  rule : Rule
  among : Contains rules rule
  demand : Demand
  named : Contains rule.given demand
  is : demand.language.text ≡ name

later_contained : {X : Type 0} (x y : X) (xs : List X) → Contains xs y → Contains (x ∷ xs) y
later_contained x y xs at = Contains-append_right (x ∷ []) xs y at

demanded_one : (given : List Demand) (name : List ℕ) (k : ℕ) → k < length (demanded_by given) → get_or (demanded_by given) k name ≡ name → (d : Demand) × Contains given d × (d.language.text ≡ name)
demanded_one [] name k low is = absurd (omega (arith, low))
demanded_one (d ∷ ds) name zero low is = (d, Contains-get_or (d ∷ ds) 0 d (omega arith), is)
demanded_one (d ∷ ds) name (suc k) low is = let rest = demanded_one ds name k (omega (arith, low)) is in (rest.0, later_contained d rest.0 ds rest.1, rest.2)

demanded_some : (rules : List Rule) (name : List ℕ) → Contains (demanded_in rules) name → IsDemanded rules name
demanded_some [] name (k, low, is) = absurd (omega (arith, low))
demanded_some (r ∷ rs) name at = by (in_parts (demanded_by r.given) (demanded_in rs) name at) (demanded_some rs name)
  where
    in_parts : (xs ys : List (List ℕ)) (n : List ℕ) → Contains (xs ++ ys) n → Contains xs n ⊎ Contains ys n
    in_parts [] ys n at = inr at
    in_parts (x ∷ xs) ys n (zero, low, is) = inl (zero, omega arith, is)
    in_parts (x ∷ xs) ys n (suc k, low, is) = elim (in_parts xs ys n (k, omega (arith, low), is)) [ inl h ↦ inl (later_contained x n xs h) | inr h ↦ inr h ]

    by : Contains (demanded_by r.given) name ⊎ Contains (demanded_in rs) name → (Contains (demanded_in rs) name → IsDemanded rs name) → IsDemanded (r ∷ rs) name
    by (inl (k, low, is)) later = let one = demanded_one r.given name k low is in record { rule = r; among = Contains-get_or (r ∷ rs) 0 r (omega arith); demand = one.0; named = one.1; is = one.2 }
    by (inr at) later = let rest = later at in record { rule = rest.rule; among = later_contained r rest.rule rs rest.among; demand = rest.demand; named = rest.named; is = rest.is }

-- what is demanded by one of the rules is among all that are demanded
pub in_demanded : (rules : List Rule) (r : Rule) (d : Demand) → Contains rules r → Contains r.given d → Contains (demanded_in rules) d.language.text
in_demanded [] r d (k, low, is) given = absurd (omega (arith, low))
in_demanded (s ∷ rs) r d (zero, low, is) given =
    Contains-append_left (demanded_by s.given) (demanded_in rs) d.language.text (named_of s.given d (subst (λ (x : Rule). Contains x.given d) (sym is) given))
  where
    named_of : (ds : List Demand) (e : Demand) → Contains ds e → Contains (demanded_by ds) e.language.text
    named_of [] e (k, low, is) = absurd (omega (arith, low))
    named_of (x ∷ ds) e (zero, low, is) = (0, omega arith, ap (λ (y : Demand). y.language.text) is)
    named_of (x ∷ ds) e (suc k, low, is) = later_contained x.language.text e.language.text (demanded_by ds) (named_of ds e (k, omega (arith, low), is))
in_demanded (s ∷ rs) r d (suc k, low, is) given = Contains-append_right (demanded_by s.given) (demanded_in rs) d.language.text (in_demanded rs r d (k, omega (arith, low), is) given)

module _ (items : List Item) (name : List ℕ) where
  pub demanded_reached : (other last : List ℕ) → Reaches items name other → Contains (demanded_in (rules_of items other)) last → Reaches items name last
  demanded_reached other last reached at = let d = demanded_some (rules_of items other) last at in subst (Reaches items name) d.is (by_demand other d.rule d.demand reached d.among d.named)

  -- before the first round
  pub first_reached : (names : List (List ℕ)) → IsGrown [] names (name ∷ []) → AreReached items name names
  first_reached names g = subst (AreReached items name) (sym g.is) (by g.added g.of_more (subst (λ ns. Contains ns name) g.is (g.all 0 name (omega arith))))
    where
      is_name : (x : List ℕ) → Contains (name ∷ []) x → x ≡ name
      is_name x (zero, low, is) = sym is
      is_name x (suc k, low, is) = absurd (omega (arith, low))

      by : (added : List (List ℕ)) → All (Contains (name ∷ [])) added → Contains added name → AreReached items name added
      by [] all (k, low, is) = absurd (omega (arith, low))
      by (x ∷ xs) all at = record { others = xs; first = ap (λ y. y ∷ xs) (is_name x (all 0 x (omega arith))); reached = λ k d low. subst (Reaches items name) (sym (is_name (get_or (x ∷ xs) k d) (all k d low))) itself }

  -- a round more
  pub more_reached : (old new : List (List ℕ)) (n : List ℕ) → AreReached items name old → Contains old n → IsGrown old new (demanded_in (rules_of items n)) → AreReached items name new
  more_reached old new n so_far at g = subst (AreReached items name) (sym g.is) (record {
    others = so_far.others ++ g.added;
    first = ap (λ z. z ++ g.added) so_far.first;
    reached = All-append (Reaches items name) old g.added so_far.reached (λ k d low. demanded_reached n (get_or g.added k d) (All-contains (Reaches items name) old n so_far.reached at) (g.of_more k d low));
  })

  more_within : (old new : List (List ℕ)) (more : List (List ℕ)) (xs : List (List ℕ)) → IsGrown old new more → All (Contains old) xs → All (Contains new) xs
  more_within old new more xs g all k d low = subst (λ ns. Contains ns (get_or xs k d)) (sym g.is) (Contains-append_left old g.added (get_or xs k d) (all k d low))

  first_of_more : (old new more : List (List ℕ)) (k : ℕ) (n : List ℕ) → k < length old → n ≡ get_or old k n → IsGrown old new more → take (k + 1) new ≡ take k old ++ n ∷ []
  first_of_more old new more k n low is g =
      ap (λ j. take j new) (add-one k) ∙ ap (take (suc k)) g.is ∙ take-append-le (suc k) old g.added (omega (arith, low)) ∙ take-suc old k n low ∙ ap (λ x. take k old ++ x ∷ []) (sym is)

  pub more_closed : (old new : List (List ℕ)) (k : ℕ) (n : List ℕ) → k < length old → n ≡ get_or old k n → AreClosed items old (take k old) → IsGrown old new (demanded_in (rules_of items n)) → AreClosed items new (take (k + 1) new)
  more_closed old new k n low is closed g =
      subst (AreClosed items new) (sym (first_of_more old new (demanded_in (rules_of items n)) k n low is g))
      (All-append (λ m. All (Contains new) (demanded_in (rules_of items m))) (take k old) (n ∷ []) (λ j d below. more_within old new (demanded_in (rules_of items n)) (demanded_in (rules_of items (get_or (take k old) j d))) g (closed j d below))
      (All-cons (λ m. All (Contains new) (demanded_in (rules_of items m))) n [] g.all (All-nil (λ m. All (Contains new) (demanded_in (rules_of items m))))))

  pub more_langs : {X : Type 0} (f : X → LangItem) (old new more : List (List ℕ)) (langs after : List X) (n : List ℕ) (x : X) → length langs < length old → n ≡ get_or old (length langs) n → IsGrown old new more → after ≡ langs ++ x ∷ [] → find_lang items n ≡ Some (f x)
      → map (find_lang items) (take (length langs) old) ≡ map (λ y. Some (f y)) langs → map (find_lang items) (take (length after) new) ≡ map (λ y. Some (f y)) after
  more_langs f old new more langs after n x low is g grown found so_far =
      ap (λ j. map (find_lang items) (take j new)) (ap length grown ∙ length-append langs (x ∷ []))
      ∙ ap (map (find_lang items)) (first_of_more old new more (length langs) n low is g)
      ∙ map-append (find_lang items) (take (length langs) old) (n ∷ [])
      ∙ (λ i. so_far i ++ found i ∷ []) ∙ sym (ap (map (λ y. Some (f y))) grown ∙ map-append (λ y. Some (f y)) langs (x ∷ []))

  -- each language that is reached is declared, so they are not more than are declared
  pub declared : (n : List ℕ) → AllStand items → is_some (find_lang items name) ≡ true → Reaches items name n → (l : LangItem) × (find_lang items n ≡ Some l)
  declared n ok at reached =
      let own = by_some (find_lang items name) at in
      let of_n = reached_of items own.0.of.text name n ok (record { lang = own.0; found = own.1; of_is = refl }) reached in
      (of_n.lang, of_n.found)
    where
      by_some : (found : Option LangItem) → is_some found ≡ true → (l : LangItem) × (found ≡ Some l)
      by_some None at = absurd (cc)
      by_some (Some l) at = (l, refl)

  -- they are not more than the items
  pub not_more : (laws : IsEquivalence same_text) (names : List (List ℕ)) → AllStand items → is_some (find_lang items name) ≡ true → AreReached items name names → IsDistinct same_text names → length names ≤ length items
  not_more laws names stand at reached apart =
      subst (λ n. length names ≤ n) (length-map items own_text) (length-le_from_is_member laws names (map own_text items) apart
      (λ q h. let n = declared q stand at (All-contains (Reaches items name) names q reached.reached (there_by_test names q h)) in test_by_there (map own_text items) q (lang_declared items q n.0 n.1)))
