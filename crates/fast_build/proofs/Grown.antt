-- Names that grow by more names.
use Rattle.std.proofs.Common.{◌≡◌, ℕ, zero, suc, ◌+◌, ◌<◌, true, List, [], ◌∷◌, ◌++◌, map, take, length, get_or, All, Contains, refl, sym, ap, subst, ◌∙◌, append_assoc, append-nil, add-one, arith}
use Rattle.std.specs.List.{list_any}
use Rattle.std.proofs.lemmas.List.Elements.{All-nil, All-cons, All-append, Contains-append_left, Contains-append_right, Contains-get_or}
use Rattle.std.proofs.Math.Seq.{take-suc}
use Rattle.model_names.specs.Declared.{same_text}
use Rattle.fast_syntax.specs.declared.Demand as code
use Rattle.fast_syntax.specs.declared.items.Rule as rule
use Rattle.fast_syntax.specs.View.{plain_demand}
use Rattle.fast_syntax.specs.Plain.{plain_rule}
use Rattle.indexmap.proofs.CallerLemmas.{Contains-list_any}
use Rattle.fast_build.specs.Reached.{demanded_by, demanded_in, IsGrown}
use Rattle.std.proofs.lemmas.List.Folds.{list_any_at}
use Rattle.sta_core.proofs.Meaning.{All_from_map}
use Rattle.model_grammar.specs.Syntax.{Rule}
use Rattle.model_checks.proofs.Soundness.{same_itself}
use Rattle.fast_build.proofs.Naming.{same_from_test}
use Rattle.fast_build.proofs.Elements.{all_left, all_right}

all_within : (xs ys zs : List (List ℕ)) → All (Contains xs) zs → All (Contains (xs ++ ys)) zs
all_within xs ys zs all k d low = Contains-append_left xs ys (get_or zs k d) (all k d low)

all_behind : (xs ys zs : List (List ℕ)) → All (Contains ys) zs → All (Contains (xs ++ ys)) zs
all_behind xs ys zs all k d low = Contains-append_right xs ys (get_or zs k d) (all k d low)

all_here : (xs : List (List ℕ)) → All (Contains xs) xs
all_here xs k d low = Contains-get_or xs k d low

-- nothing more
pub grown_none : (old : List (List ℕ)) → IsGrown old old []
grown_none old = record { added = []; is = sym (append-nil old); of_more = All-nil (Contains []); all = All-nil (Contains old) }

-- one name that is there
pub grown_there : (old : List (List ℕ)) (name : List ℕ) → Contains old name → IsGrown old old (name ∷ [])
grown_there old name at = record { added = []; is = sym (append-nil old); of_more = All-nil (Contains (name ∷ [])); all = All-cons (Contains old) name [] at (All-nil (Contains old)) }

-- one name that is new
pub grown_new : (old new : List (List ℕ)) (name : List ℕ) → new ≡ old ++ name ∷ [] → IsGrown old new (name ∷ [])
grown_new old new name e = record { added = name ∷ []; is = e; of_more = all_here (name ∷ []); all = subst (λ z. All (Contains z) (name ∷ [])) (sym e) (all_behind old (name ∷ []) (name ∷ []) (all_here (name ∷ []))) }

-- some, and then some more
pub grown_twice : (old mid new xs ys : List (List ℕ)) → IsGrown old mid xs → IsGrown mid new ys → IsGrown old new (xs ++ ys)
grown_twice old mid new xs ys g h = record {
  added = g.added ++ h.added;
  is = h.is ∙ ap (λ z. z ++ h.added) g.is ∙ append_assoc old g.added h.added;
  of_more = All-append (Contains (xs ++ ys)) g.added h.added (all_within xs ys g.added g.of_more) (all_behind xs ys h.added h.of_more);
  all = All-append (Contains new) xs ys (subst (λ z. All (Contains z) xs) (sym h.is) (all_within mid h.added xs g.all)) h.all;
}

-- a step of a loop over what gives names one after another
module _ {X : Type 0} (F : List X → List (List ℕ)) (f : X → List (List ℕ)) (law : (ys : List X) (x : X) → F (ys ++ x ∷ []) ≡ F ys ++ f x) where
  pub grown_step : (xs : List X) (i : ℕ) (x : X) (old mid new : List (List ℕ)) → i < length xs → x ≡ get_or xs i x → IsGrown old mid (F (take i xs)) → IsGrown mid new (f x) → IsGrown old new (F (take (i + 1) xs))
  grown_step xs i x old mid new low is g h =
      subst (IsGrown old new) (sym (ap (λ n. F (take n xs)) (add-one i) ∙ ap F (take-suc xs i x low ∙ ap (λ y. take i xs ++ y ∷ []) (sym is)) ∙ law (take i xs) x)) (grown_twice old mid new (F (take i xs)) (f x) g h)

pub demanded_more : (ys : List code.Demand) (d : code.Demand) → demanded_by (map plain_demand (ys ++ d ∷ [])) ≡ demanded_by (map plain_demand ys) ++ d.language.text ∷ []
demanded_more [] d = refl
demanded_more (y ∷ ys) d = ap (λ z. y.language.text ∷ z) (demanded_more ys d)

pub demanded_rules_more : (ys : List rule.Rule) (r : rule.Rule) → demanded_in (map plain_rule (ys ++ r ∷ [])) ≡ demanded_in (map plain_rule ys) ++ demanded_by (map plain_demand r.given.items)
demanded_rules_more [] r = append-nil (demanded_by (map plain_demand r.given.items))
demanded_rules_more (y ∷ ys) r = ap (λ z. demanded_by (map plain_demand y.given.items) ++ z) (demanded_rules_more ys r) ∙ sym (append_assoc (demanded_by (map plain_demand y.given.items)) (demanded_in (map plain_rule ys)) (demanded_by (map plain_demand r.given.items)))

-- a name that is found in the set is one of its names
pub there_by_test : (names : List (List ℕ)) (name : List ℕ) → list_any (same_text name) names ≡ true → Contains names name
there_by_test names name e = Contains-list_any same_text same_from_test names name e

pub test_by_there : (names : List (List ℕ)) (name : List ℕ) → Contains names name → list_any (same_text name) names ≡ true
test_by_there names name (k, low, is) = list_any_at (same_text name) names k name low (ap (same_text name) is ∙ same_itself name)

-- the language of a demand is there where those of all are
pub demand_there : (names : List (List ℕ)) (given : List code.Demand) (i : ℕ) (d : code.Demand) → d ≡ get_or given i d → i < length given → All (Contains names) (demanded_by (map plain_demand given)) → Contains names d.language.text
demand_there names given i d is low all =
    let each = All_from_map (λ e. Contains names e.language.text) plain_demand given (All_from_map (Contains names) (λ e. e.language.text) (map plain_demand given) all) in
    subst (λ (e : code.Demand). Contains names e.language.text) (sym is) (each i d low)

-- the languages that a rule demands are there where those of all rules are
pub rule_demands_there : (names : List (List ℕ)) (rules : List Rule) (i : ℕ) (r : Rule) → All (Contains names) (demanded_in rules) → i < length rules → get_or rules i r ≡ r → All (Contains names) (demanded_by r.given)
rule_demands_there names [] i r all low is = absurd (omega (arith, low))
rule_demands_there names (x ∷ xs) zero r all low is = subst (λ (y : Rule). All (Contains names) (demanded_by y.given)) is (all_left (Contains names) (demanded_by x.given) (demanded_in xs) all)
rule_demands_there names (x ∷ xs) (suc i) r all low is = rule_demands_there names xs i r (all_right (Contains names) (demanded_by x.given) (demanded_in xs) all) (omega (arith, low)) is
