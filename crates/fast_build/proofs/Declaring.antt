-- The names that a program declares.
use Rattle.std.proofs.Common.{◌≡◌, ℕ, Bool, true, false, cond, List, [], ◌∷◌, Option, Some, None, map, Contains, refl, arith}
use Rattle.std.specs.Prelude.{is_some}
use Rattle.std.specs.Option.{option_and_then, option_map_or}
use Rattle.std.proofs.lemmas.List.Elements.{Contains-append_right}
use Rattle.model_program.specs.Syntax.{Name}
use Rattle.model_grammar.specs.Syntax.{LangItem, Item}
use Rattle.model_names.specs.Declared.{same_text, own_name, declares, find_item}
use Rattle.fast_build.specs.Items.{own_lang, find_lang}
use Rattle.fast_build.proofs.Naming.{same_from_test}

-- the name that an item declares
abbrev pub own_text : Item → List ℕ
own_text item = option_map_or (λ (m : Name). m.text) (own_name item.body) []

text_is : (own : Option Name) (n : List ℕ) → option_map_or (λ m. same_text m.text n) own false ≡ true → option_map_or (λ (m : Name). m.text) own [] ≡ n
text_is None n e = absurd (cc)
text_is (Some m) n e = same_from_test m.text n e

-- an item that is found declares its name
pub item_declared : (items : List Item) (n : List ℕ) → is_some (find_item items n) ≡ true → Contains (map own_text items) n
item_declared [] n e = absurd (cc)
item_declared (x ∷ xs) n e = by (declares n x) refl e (item_declared xs n)
  where
    by : (b : Bool) → declares n x ≡ b → is_some (cond b (Some x) (find_item xs n)) ≡ true → (is_some (find_item xs n) ≡ true → Contains (map own_text xs) n) → Contains (map own_text (x ∷ xs)) n
    by true is e later = (0, omega arith, text_is (own_name x.body) n is)
    by false is e later = Contains-append_right (own_text x ∷ []) (map own_text xs) n (later e)

some_of : {A B : Type 0} (f : A → Option B) (o : Option A) (x : B) → option_and_then f o ≡ Some x → is_some o ≡ true
some_of f None x e = absurd (cc)
some_of f (Some a) x e = refl

pub lang_declared : (items : List Item) (n : List ℕ) (l : LangItem) → find_lang items n ≡ Some l → Contains (map own_text items) n
lang_declared items n l e = item_declared items n (some_of (λ item. own_lang item.body) (find_item items n) l e)
