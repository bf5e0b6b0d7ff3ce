-- The ranks of constructors are in range.
use Rattle.std.proofs.Common.{◌≡◌, ℕ, zero, suc, ◌+◌, ◌<◌, Bool, true, false, ◌&&◌, List, [], ◌∷◌, ◌++◌, map, take, drop, length, get_or, Some, refl, sym, ap, ◌∙◌, arith}
use Rattle.std.specs.List.{list_all}
use Rattle.std.proofs.lemmas.List.{take-append-drop, map-append}
use Rattle.model_program.specs.Syntax.{CtorItem, TypeItem}
use Rattle.model_grammar.specs.Syntax.{Body, sorts, tree, lang, trans, def, assertion}
use Rattle.model_checks.specs.Types.{is_rank_in_range}
use Rattle.model_checks.specs.Programs.{is_well_formed}
use Rattle.model_checks.specs.Sound.{StandsIn}
use Rattle.model_checks.proofs.SoundWhole.{sound}
use Rattle.fast_syntax.specs.declared.items.Item as code
use Rattle.fast_syntax.specs.Plain.{plain_item}
use Rattle.fast_syntax.proofs.Appending.{drop_at}
use Rattle.program_check.specs.Numbered.{own_type_item}
use Rattle.program_check.specs.Signed.{HaveRanks}

first_true : (a b : Bool) → (a && b) ≡ true → a ≡ true
first_true true b e = refl
first_true false b e = e

second_true : (a b : Bool) → (a && b) ≡ true → b ≡ true
second_true true b e = e
second_true false b e = absurd (cc)

-- of one of them
pub rank_at : {A : Type 0} (f : A → CtorItem) (xs : List A) (i : ℕ) (x : A) → HaveRanks (map f xs) → i < length xs → x ≡ get_or xs i x → is_rank_in_range (f x).rank ≡ true
rank_at f [] i x all low is = absurd (omega (arith, low))
rank_at f (y ∷ ys) zero x all low is = ap (λ z. is_rank_in_range (f z).rank) is ∙ first_true (is_rank_in_range (f y).rank) (list_all (λ c. is_rank_in_range c.rank) (map f ys)) all
rank_at f (y ∷ ys) (suc i) x all low is = rank_at f ys i x (second_true (is_rank_in_range (f y).rank) (list_all (λ c. is_rank_in_range c.rank) (map f ys)) all) (omega (arith, low)) is

stands_at : (xs : List code.Item) (i : ℕ) (x : code.Item) → i < length xs → x ≡ get_or xs i x → StandsIn (map plain_item xs) (plain_item x)
stands_at xs i x low is = record {
  before = map plain_item (take i xs);
  behind = map plain_item (drop (i + 1) xs);
  is = ap (map plain_item) (sym (take-append-drop i xs) ∙ ap (λ l. take i xs ++ l) (drop_at xs i x low is)) ∙ map-append plain_item (take i xs) (x ∷ drop (i + 1) xs);
}

is_sorts : (body : Body) (t : TypeItem) → own_type_item body ≡ Some t → body ≡ sorts t
is_sorts (sorts u) t e = cc
is_sorts (tree u) t e = absurd (cc)
is_sorts (lang u) t e = absurd (cc)
is_sorts (trans u) t e = absurd (cc)
is_sorts (def u) t e = absurd (cc)
is_sorts (assertion u) t e = absurd (cc)

-- of the item of this number in a well-formed program, where it is a type
pub ranked_at : (xs : List code.Item) (i : ℕ) (x : code.Item) → is_well_formed (map plain_item xs) ≡ true → i < length xs → x ≡ get_or xs i x → (t : TypeItem) → own_type_item (plain_item x).body ≡ Some t → HaveRanks t.ctors
ranked_at xs i x well low is t own = ((sound (map plain_item xs) well).types (plain_item x) t (stands_at xs i x low is) (is_sorts (plain_item x).body t own)).ranks
