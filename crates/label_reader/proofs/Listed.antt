-- What was read of lists of items: one lemma for each list, whatever stands between its items.
use Rattle.std.proofs.Common.{◌≡◌, ◌≤◌, List, [], ◌∷◌, ◌++◌, length, refl, sym, ap, ◌∙◌, subst, arith, Option, Some, Result, Ok, Err, ◌⊎◌, inl, inr}
use Rattle.model_program.specs.declared.Word.{Word}
use Rattle.model_program.specs.declared.Word.TheVariants as word
use Rattle.model_program.specs.Lexeme.{Lexeme}
use Rattle.model_program.specs.Joined.{◌⌢◌, ◌⊗◌, IsNext, IsOther, Nothing}
use Rattle.model_program.specs.Grammar.{IsSign, sign, IsComma, comma, Further, Items, Many}
use Rattle.model_grammar.specs.Terms.{IsLater, Row}
use Rattle.read_forms.specs.Reads.{IsRead, IsRefused, Fails, StartsIn, closed}
use Rattle.read_forms.specs.Parts.{Ends, HasSample, AllStartIn, other_than}
use Rattle.read_forms.proofs.Forms.{Makes, as_read, as_refused, as_fails, then_read, then_fails, first_fails, first_refused as refused_first, sample_as, sample_pair, remade, alternative, elsewhere, ends_closed, ends_starting, starts_joined, starts_append, starts_wider, stops_other, stops_other_than}
use Rattle.read_forms.proofs.Words.{sign_starts, sample_sign, sign_makes, word_read, word_refused, next_of, word_other, comma_stands, comma_left_out}
use Rattle.label_reader.specs.declared.stop.Stop.{Stop}
use Rattle.label_reader.specs.declared.lists.Between.{Between}
use Rattle.label_reader.specs.declared.lists.Between.TheVariants as gap
use Rattle.label_reader.specs.Results.{bad_of, Reads}
use Rattle.label_reader.specs.Lists.{IsTaken, SkipsTo, IsMissing, Listed, NotEmpty, ListedSome, AnyTo, SomeTo, IsItem, later_of, Without, closing_of}
use Rattle.read_forms.proofs.Lists.{IsPartWay, to_left, to_right, skip_nothing, put_nothing, opened, opened_read, opened_fails}
use Rattle.label_reader.proofs.Joins.{without_read, without_fails}
use Rattle.label_reader.proofs.Primaries.{missing as nothing_begins}
use Rattle.label_reader.proofs.Closings.{IsClosable, sample_closing, closing_more, closing_more_fails, closing_read}

pub front_as : (p q r : List Lexeme → Type 0) (ts : List Lexeme) → ((l : List Lexeme) → p l → q l) → (p ⌢ r) ts → (q ⌢ r) ts
front_as p q r ts wider joined = record { front = joined.front; back = joined.back; split = joined.split; at_front = wider joined.front joined.at_front; at_back = joined.at_back }

pub sample_item : {A : Type 0} {form : A → List Lexeme → Type 0} → HasSample (Without word.Minus form) → HasSample form
sample_item alone = record { value = alone.value; tokens = alone.tokens; spelled = alone.spelled.0 }

later_starts : {A : Type 0} {form : A → List Lexeme → Type 0} {goes_on : Word → Type 0} (between : Between) (close : Word) → IsItem between close form goes_on → (a : A) (ts : List Lexeme) → later_of between form a ts → StartsIn (other_than close) ts
later_starts gap.Nothing close item a ts spelled = item.no_close.starts a ts spelled
later_starts gap.Comma close item a ts spelled = elim spelled.at_front [
  | inl none ↦ subst (λ (l : List Lexeme). StartsIn (other_than close) l) (sym (spelled.split ∙ ap (λ l. l ++ spelled.back) none)) (item.no_close.starts a spelled.back spelled.at_back)
  | inr is ↦ subst (λ (l : List Lexeme). StartsIn (other_than close) l) (sym spelled.split) (starts_append (other_than close) spelled.front spelled.back (word_other close word.Comma is.0 spelled.front (λ e. item.closes.0 (sym e)) is.1))
]
later_starts gap.LabelComma close item a ts (inl spelled) = starts_joined (other_than close) _ _ ts (λ l is. word_other close word.Comma is.0 l (λ e. item.closes.0 (sym e)) is.1) spelled
later_starts gap.LabelComma close item a ts (inr spelled) = item.no_close.starts a ts spelled.0
later_starts gap.Bar close item a ts spelled = starts_joined (other_than close) _ _ ts (λ l is. word_other close word.Bar is.0 l (λ e. item.closes.1 (sym e)) is.1) spelled

closable : {A : Type 0} {form : A → List Lexeme → Type 0} {goes_on : Word → Type 0} (between : Between) (close : Word) → IsItem between close form goes_on → IsClosable (later_of between form) goes_on close
closable between close item = record { apart = record { starts = λ a ts spelled. later_starts between close item a ts spelled }; ends = item.ends }

-- a form behind what has no value
behind : {A : Type 0} (p : Unit {0} → List Lexeme → Type 0) (form : A → List Lexeme → Type 0) {goes_on : Word → Type 0} {tokens : List Lexeme} → Makes (p ⊗ form) (λ a. p tt ⌢ form a) (λ v. v.1) goes_on tokens
behind p form = remade (λ v ts spelled. spelled) (λ a ts spelled. ((tt, a), spelled, refl))

taken : {goes_on : Word → Type 0} (w : Word) (tokens rest : List Lexeme) → IsTaken w tokens rest → IsRead (IsSign w) goes_on tokens tt rest
taken w tokens rest is = as_read (sign_makes w _ tokens) (word_read w is.0 tokens rest is.1 is.2)

skips_comma : (tokens middle : List Lexeme) → SkipsTo gap.Comma tokens middle → IsRead IsComma comma tokens tt middle
skips_comma tokens middle (inl is) = comma_stands is.0 tokens middle is.1 is.2
skips_comma tokens middle (inr is) = subst (λ (l : List Lexeme). IsRead IsComma comma tokens tt l) (sym is.0) (comma_left_out tokens is.1)

ends_comma : {A : Type 0} {form : A → List Lexeme → Type 0} (goes_on : Word → Type 0) → AllStartIn (other_than word.Comma) form → Ends comma form goes_on
ends_comma {form = form} goes_on no_comma = ends_starting form goes_on (λ w other is. other is) no_comma

label_comma : {A : Type 0} {form : A → List Lexeme → Type 0} {goes_on : Word → Type 0} (tokens : List Lexeme) → AllStartIn (other_than word.Comma) form → IsNext word.Comma tokens → Makes (IsSign word.Comma ⊗ form) (IsLater form) (λ v. v.1) goes_on tokens
label_comma {A} {form} tokens no_comma is_next = alternative (other_than word.Comma) tokens (λ v ts spelled. inl spelled) (λ b ts spelled. back b ts spelled) (stops_other_than word.Comma tokens is_next)
  where
    back : (b : A) (ts : List Lexeme) → IsLater form b ts → StartsIn (other_than word.Comma) ts ⊎ ((v : Unit {0} × A) × (IsSign word.Comma ⊗ form) v ts × (b ≡ v.1))
    back b ts (inl spelled) = inr ((tt, b), spelled, refl)
    back b ts (inr spelled) = inl (no_comma.starts b ts spelled.0)

label_alone : {A : Type 0} {form : A → List Lexeme → Type 0} {goes_on : Word → Type 0} (tokens : List Lexeme) → IsOther word.Comma tokens → Makes (Without word.Minus form) (IsLater form) (λ a. a) goes_on tokens
label_alone {A} {form} tokens is_other = alternative (λ w. w ≡ word.Comma) tokens (λ a ts spelled. inr spelled) (λ b ts spelled. back b ts spelled) (stops_other word.Comma tokens is_other)
  where
    back : (b : A) (ts : List Lexeme) → IsLater form b ts → StartsIn (λ w. w ≡ word.Comma) ts ⊎ ((a : A) × Without word.Minus form a ts × (b ≡ a))
    back b ts (inl spelled) = inl (starts_joined (λ w. w ≡ word.Comma) _ _ ts ((sign_starts word.Comma).starts tt) spelled)
    back b ts (inr spelled) = inr (b, spelled, refl)

-- An item is read behind what stands before it.
later_read : {A : Type 0} {form : A → List Lexeme → Type 0} {goes_on : Word → Type 0} {a : A} (between : Between) (close : Word) (tokens middle after : List Lexeme) → IsItem between close form goes_on → SkipsTo between tokens middle → IsRead form goes_on middle a after → IsRead (later_of between form) goes_on tokens a after
later_read {form = form} {goes_on} {a} gap.Nothing close tokens middle after item skips read = subst (λ (l : List Lexeme). IsRead form goes_on l a after) skips read
later_read {form = form} {goes_on} gap.Comma close tokens middle after item skips read = as_read (behind IsComma form) (then_read (ends_comma goes_on item.no_comma) (skips_comma tokens middle skips) read)
later_read gap.LabelComma close tokens middle after item (inl is) read = as_read (label_comma tokens item.no_comma (next_of word.Comma is.0 tokens middle is.1 is.2)) (then_read (ends_closed _ _) (taken word.Comma tokens middle is) read)
later_read {form = form} {goes_on} {a} gap.LabelComma close tokens middle after item (inr is) read = as_read (label_alone tokens is.1) (without_read word.Minus is.2 (subst (λ (l : List Lexeme). IsRead form goes_on l a after) is.0 read))
later_read {form = form} {goes_on} gap.Bar close tokens middle after item skips read = as_read (behind (IsSign word.Bar) form) (then_read (ends_closed form goes_on) (taken word.Bar tokens middle skips) read)

-- or refused
later_fails : {A : Type 0} {form : A → List Lexeme → Type 0} {goes_on : Word → Type 0} (between : Between) (close : Word) (tokens middle : List Lexeme) (bad : _) → IsItem between close form goes_on → SkipsTo between tokens middle → Fails form goes_on middle bad → Fails (later_of between form) goes_on tokens bad
later_fails {form = form} {goes_on} gap.Nothing close tokens middle bad item skips fails = subst (λ (l : List Lexeme). Fails form goes_on l bad) skips fails
later_fails {form = form} {goes_on} gap.Comma close tokens middle bad item skips fails = as_fails bad (behind IsComma form) (then_fails bad (ends_comma goes_on item.no_comma) (skips_comma tokens middle skips) fails)
later_fails gap.LabelComma close tokens middle bad item (inl is) fails = as_fails bad (label_comma tokens item.no_comma (next_of word.Comma is.0 tokens middle is.1 is.2)) (then_fails bad (ends_closed _ _) (taken word.Comma tokens middle is) fails)
later_fails {form = form} {goes_on} gap.LabelComma close tokens middle bad item (inr is) fails = as_fails bad (label_alone tokens is.1) (without_fails word.Minus bad item.alone is.2 (subst (λ (l : List Lexeme). Fails form goes_on l bad) is.0 fails))
later_fails {form = form} {goes_on} gap.Bar close tokens middle bad item skips fails = as_fails bad (behind (IsSign word.Bar) form) (then_fails bad (ends_closed form goes_on) (taken word.Bar tokens middle skips) fails)

-- or what must stand before it doesn't
later_missing : {A : Type 0} {form : A → List Lexeme → Type 0} {goes_on : Word → Type 0} (between : Between) (close : Word) (tokens : List Lexeme) → IsItem between close form goes_on → IsMissing between tokens → IsRefused (later_of between form) goes_on tokens tokens
later_missing gap.Nothing close tokens item none = absurd none
later_missing gap.Comma close tokens item none = absurd none
later_missing {A} {form} {goes_on} gap.LabelComma close tokens item is_next = nothing_begins tokens (sample_as (λ (v : Unit {0} × A). v.1) (λ v ts spelled. inl spelled) (sample_pair (sample_sign word.Comma) (sample_item item.alone)))
    (λ more other after a as_rest same spelled. elsewhere (other_than word.Minus) tokens more (stops_other_than word.Minus tokens is_next) as_rest (subst (λ (l : List Lexeme). StartsIn (other_than word.Minus) l) (sym same) (starts_append (other_than word.Minus) other after (begins a other spelled))))
  where
    other_begins : (ts : List Lexeme) → StartsIn (other_than word.Comma) ts → IsOther word.Minus ts → StartsIn (other_than word.Minus) ts
    other_begins [] starts is_other = starts
    other_begins (t ∷ ts) starts is_other = is_other

    begins : (a : A) (ts : List Lexeme) → IsLater form a ts → StartsIn (other_than word.Minus) ts
    begins a ts (inl spelled) = starts_joined (other_than word.Minus) _ _ ts (λ l is. word_other word.Minus word.Comma is.0 l (λ e. cc) is.1) spelled
    begins a ts (inr spelled) = other_begins ts (item.no_comma.starts a ts spelled.0) spelled.1
later_missing {form = form} {goes_on} gap.Bar close tokens item is_other = as_refused (behind (IsSign word.Bar) form) (refused_first (ends_closed form goes_on) (sample_item item.alone) (as_refused (sign_makes word.Bar closed tokens) (word_refused word.Bar tokens is_other)))

-- a list of such items, and its closing sign, are the first item and the further ones
abbrev pub MadeOfItems : {A : Type 0} → Between → Word → (A → List Lexeme → Type 0) → (List A → List Lexeme → Type 0) → List Lexeme → Type 0
MadeOfItems between close form whole tokens = Makes (form ⊗ closing_of (later_of between form) close) whole (λ v. v.0 ∷ v.1.0) closed tokens

-- the same of a list that is a first item and the further ones behind it
made_of : {A : Type 0} (between : Between) (form : A → List Lexeme → Type 0) (close : Word) (list : List A → List Lexeme → Type 0) {tokens : List Lexeme} → ((ts : List Lexeme) → list [] ts → ⊥)
    → ((x : A) (xs : List A) (ts : List Lexeme) → (form x ⌢ Many (later_of between form) xs) ts → list (x ∷ xs) ts) → ((x : A) (xs : List A) (ts : List Lexeme) → list (x ∷ xs) ts → (form x ⌢ Many (later_of between form) xs) ts)
    → MadeOfItems between close form (λ xs. list xs ⌢ sign close) tokens
made_of {A} between form close list none into back = remade
    (λ v ts spelled. front_as (form v.0 ⌢ Many (later_of between form) v.1.0) (list (v.0 ∷ v.1.0)) (sign close) ts (into v.0 v.1.0) (to_left (form v.0) (Many (later_of between form) v.1.0) (sign close) ts spelled))
    (λ b ts spelled. parts b ts spelled)
  where
    parts : (b : List A) (ts : List Lexeme) → (list b ⌢ sign close) ts → (v : A × (List A × Unit {0})) × (form ⊗ closing_of (later_of between form) close) v ts × (b ≡ v.0 ∷ v.1.0)
    parts [] ts spelled = absurd (none spelled.front spelled.at_front)
    parts (x ∷ xs) ts spelled = ((x, (xs, tt)), to_right (form x) (Many (later_of between form) xs) (sign close) ts (front_as (list (x ∷ xs)) (form x ⌢ Many (later_of between form) xs) (sign close) ts (back x xs) spelled), refl)

-- Separators stand before the further items.
further_many : {A : Type 0} (p : Unit {0} → List Lexeme → Type 0) (form : A → List Lexeme → Type 0) (xs : List A) (ts : List Lexeme) → Further p form xs ts → Many (λ a. p tt ⌢ form a) xs ts
further_many p form [] ts is = is
further_many p form (x ∷ xs) ts joined = let j = to_left (p tt) (form x) (Further p form xs) ts joined in record { front = j.front; back = j.back; split = j.split; at_front = j.at_front; at_back = further_many p form xs j.back j.at_back }

many_further : {A : Type 0} (p : Unit {0} → List Lexeme → Type 0) (form : A → List Lexeme → Type 0) (xs : List A) (ts : List Lexeme) → Many (λ a. p tt ⌢ form a) xs ts → Further p form xs ts
many_further p form [] ts is = is
many_further p form (x ∷ xs) ts joined = to_right (p tt) (form x) (Further p form xs) ts (record { front = joined.front; back = joined.back; split = joined.split; at_front = joined.at_front; at_back = many_further p form xs joined.back joined.at_back })

into_items : {A : Type 0} (p : Unit {0} → List Lexeme → Type 0) (form : A → List Lexeme → Type 0) (x : A) (xs : List A) (ts : List Lexeme) → (form x ⌢ Many (λ a. p tt ⌢ form a) xs) ts → (form x ⌢ Further p form xs) ts
into_items p form x xs ts is = record { front = is.front; back = is.back; split = is.split; at_front = is.at_front; at_back = many_further p form xs is.back is.at_back }

of_items : {A : Type 0} (p : Unit {0} → List Lexeme → Type 0) (form : A → List Lexeme → Type 0) (x : A) (xs : List A) (ts : List Lexeme) → (form x ⌢ Further p form xs) ts → (form x ⌢ Many (λ a. p tt ⌢ form a) xs) ts
of_items p form x xs ts is = record { front = is.front; back = is.back; split = is.split; at_front = is.at_front; at_back = further_many p form xs is.back is.at_back }

some_made : {A : Type 0} (between : Between) (form : A → List Lexeme → Type 0) (close : Word) {tokens : List Lexeme} → MadeOfItems between close form (SomeTo between form close) tokens
some_made gap.Nothing form close = made_of gap.Nothing form close (NotEmpty (Many form)) (λ ts none. none) (λ x xs ts is. is) (λ x xs ts is. is)
some_made gap.Comma form close = made_of gap.Comma form close (Items IsComma form) (λ ts none. none) (into_items IsComma form) (of_items IsComma form)
some_made gap.LabelComma form close = made_of gap.LabelComma form close (NotEmpty (Row form)) (λ ts none. none) (λ x xs ts is. is) (λ x xs ts is. is)
some_made gap.Bar form close = made_of gap.Bar form close (Items (IsSign word.Bar) form) (λ ts none. none) (into_items (IsSign word.Bar) form) (of_items (IsSign word.Bar) form)

-- Lists with an item, and others.

none_listed : {A : Type 0} (between : Between) (form : A → List Lexeme → Type 0) (ts : List Lexeme) → Nothing ts → Listed between form [] ts
none_listed gap.Nothing form ts is = is
none_listed gap.Comma form ts is = is
none_listed gap.LabelComma form ts is = is
none_listed gap.Bar form ts is = is

listed_none : {A : Type 0} (between : Between) (form : A → List Lexeme → Type 0) (ts : List Lexeme) → Listed between form [] ts → Nothing ts
listed_none gap.Nothing form ts is = is
listed_none gap.Comma form ts is = is
listed_none gap.LabelComma form ts is = is
listed_none gap.Bar form ts is = is

some_listed : {A : Type 0} (between : Between) (form : A → List Lexeme → Type 0) (xs : List A) (ts : List Lexeme) → ListedSome between form xs ts → Listed between form xs ts
some_listed gap.Nothing form [] ts is = absurd is
some_listed gap.Nothing form (x ∷ xs) ts is = is
some_listed gap.Comma form [] ts is = absurd is
some_listed gap.Comma form (x ∷ xs) ts is = is
some_listed gap.LabelComma form [] ts is = absurd is
some_listed gap.LabelComma form (x ∷ xs) ts is = is
some_listed gap.Bar form [] ts is = absurd is
some_listed gap.Bar form (x ∷ xs) ts is = is

listed_some : {A : Type 0} (between : Between) (form : A → List Lexeme → Type 0) (x : A) (xs : List A) (ts : List Lexeme) → Listed between form (x ∷ xs) ts → ListedSome between form (x ∷ xs) ts
listed_some gap.Nothing form x xs ts is = is
listed_some gap.Comma form x xs ts is = is
listed_some gap.LabelComma form x xs ts is = is
listed_some gap.Bar form x xs ts is = is

listed_starts : {A : Type 0} {form : A → List Lexeme → Type 0} {words : Word → Type 0} (between : Between) → AllStartIn words form → (x : A) (xs : List A) (ts : List Lexeme) → Listed between form (x ∷ xs) ts → StartsIn words ts
listed_starts gap.Nothing all x xs ts is = starts_joined _ _ _ ts (all.starts x) is
listed_starts gap.Comma all x xs ts is = starts_joined _ _ _ ts (all.starts x) is
listed_starts gap.LabelComma all x xs ts is = starts_joined _ _ _ ts (all.starts x) is
listed_starts gap.Bar all x xs ts is = starts_joined _ _ _ ts (all.starts x) is

-- where the closing sign comes, there is no item
any_none : {A : Type 0} {form : A → List Lexeme → Type 0} {goes_on : Word → Type 0} (between : Between) (close : Word) (tokens : List Lexeme) → IsItem between close form goes_on → IsNext close tokens → Makes (IsSign close) (AnyTo between form close) (λ _. []) closed tokens
any_none {A} {form} between close tokens item is_next = alternative (other_than close) tokens (λ _ ts is_sign. front_as Nothing (Listed between form []) (sign close) ts (none_listed between form) (put_nothing (sign close) ts is_sign)) (λ b ts spelled. back b ts spelled) (stops_other_than close tokens is_next)
  where
    back : (b : List A) (ts : List Lexeme) → AnyTo between form close b ts → StartsIn (other_than close) ts ⊎ ((u : Unit {0}) × IsSign close u ts × (b ≡ []))
    back [] ts spelled = inr (tt, skip_nothing (sign close) ts (front_as (Listed between form []) Nothing (sign close) ts (listed_none between form) spelled), refl)
    back (x ∷ xs) ts spelled = inl (starts_joined (other_than close) _ _ ts (listed_starts between item.no_close x xs) spelled)

pub any_ends : {A : Type 0} {form : A → List Lexeme → Type 0} {goes_on : Word → Type 0} {tokens rest : List Lexeme} (between : Between) (close : Word) → IsItem between close form goes_on → IsTaken close tokens rest → IsRead (AnyTo between form close) closed tokens [] rest
any_ends {tokens = tokens} {rest} between close item is = as_read (any_none between close tokens item (next_of close is.0 tokens rest is.1 is.2)) (taken close tokens rest is)

-- and where it doesn't, there is one
pub any_some : {A : Type 0} (between : Between) (form : A → List Lexeme → Type 0) (close : Word) (tokens : List Lexeme) → IsOther close tokens → Makes (SomeTo between form close) (AnyTo between form close) (λ xs. xs) closed tokens
any_some {A} between form close tokens is_other = alternative (λ w. w ≡ close) tokens (λ xs ts spelled. front_as (ListedSome between form xs) (Listed between form xs) (sign close) ts (some_listed between form xs) spelled) (λ b ts spelled. back b ts spelled) (stops_other close tokens is_other)
  where
    back : (b : List A) (ts : List Lexeme) → AnyTo between form close b ts → StartsIn (λ w. w ≡ close) ts ⊎ ((xs : List A) × SomeTo between form close xs ts × (b ≡ xs))
    back [] ts spelled = inl ((sign_starts close).starts tt ts (skip_nothing (sign close) ts (front_as (Listed between form []) Nothing (sign close) ts (listed_none between form) spelled)))
    back (x ∷ xs) ts spelled = inr (x ∷ xs, front_as (Listed between form (x ∷ xs)) (ListedSome between form (x ∷ xs)) (sign close) ts (listed_some between form x xs) spelled, refl)

pub sample_any_to : {A : Type 0} (between : Between) (form : A → List Lexeme → Type 0) (close : Word) → HasSample (AnyTo between form close)
sample_any_to between form close = let s = sample_sign close in record { value = []; tokens = s.tokens; spelled = front_as Nothing (Listed between form []) (sign close) s.tokens (none_listed between form) (put_nothing (sign close) s.tokens s.spelled) }

pub sample_some_to : {A : Type 0} (between : Between) (form : A → List Lexeme → Type 0) (close : Word) → HasSample form → HasSample (SomeTo between form close)
sample_some_to {A} between form close sample = sample_as (λ (v : A × (List A × Unit {0})). v.0 ∷ v.1.0) ((some_made between form close {tokens = []}).into) (sample_pair sample (sample_closing (later_of between form) close))

-- Reading the items one by one.

-- the first one
pub items_begin : {A : Type 0} {form : A → List Lexeme → Type 0} {goes_on : Word → Type 0} {tokens rest : List Lexeme} {x : A} (between : Between) (close : Word) (all : List A) → IsItem between close form goes_on → IsRead form goes_on tokens x rest → all ≡ x ∷ []
    → IsPartWay (SomeTo between form close) (closing_of (later_of between form) close) closed (λ v. all ++ v.0) tokens rest
items_begin {A} {form} {tokens = tokens} {rest} between close all item read is = subst (λ (l : List A). IsPartWay (SomeTo between form close) (closing_of (later_of between form) close) closed (λ v. l ++ v.0) tokens rest) (sym is) (record {
  read = λ b end more. as_read (some_made between form close) (then_read item.ends read more);
  fails = λ bad more. as_fails bad (some_made between form close) (then_fails bad item.ends read more);
})

pub items_not_begun : {A : Type 0} {form : A → List Lexeme → Type 0} {goes_on : Word → Type 0} {tokens : List Lexeme} (between : Between) (close : Word) (bad : Option (List Lexeme)) → IsItem between close form goes_on → Fails form goes_on tokens bad → Fails (SomeTo between form close) closed tokens bad
items_not_begun {form = form} between close bad item fails = as_fails bad (some_made between form close) (first_fails bad item.ends (sample_closing (later_of between form) close) fails)

-- one more
pub items_go_on : {A : Type 0} {form : A → List Lexeme → Type 0} {goes_on : Word → Type 0} {whole : List A → List Lexeme → Type 0} {tokens rest middle after : List Lexeme} {x : A} (between : Between) (close : Word) (all new : List A) → IsItem between close form goes_on
    → IsPartWay whole (closing_of (later_of between form) close) closed (λ v. all ++ v.0) tokens rest → IsOther close rest → SkipsTo between rest middle → IsRead form goes_on middle x after → new ≡ all ++ x ∷ []
    → IsPartWay whole (closing_of (later_of between form) close) closed (λ v. new ++ v.0) tokens after
items_go_on {form = form} between close all new item so_far is_other skips read is = closing_more (later_of between form) close (λ xs. xs) all new (closable between close item) so_far is_other (later_read between close _ _ _ item skips read) is

pub items_refused : {A B : Type 0} {form : A → List Lexeme → Type 0} {goes_on : Word → Type 0} {whole : B → List Lexeme → Type 0} {to : List A × Unit {0} → B} {tokens rest middle : List Lexeme} (between : Between) (close : Word) (bad : Option (List Lexeme)) → IsItem between close form goes_on
    → IsPartWay whole (closing_of (later_of between form) close) closed to tokens rest → IsOther close rest → SkipsTo between rest middle → Fails form goes_on middle bad → Fails whole closed tokens bad
items_refused {form = form} between close bad item so_far is_other skips fails = closing_more_fails (later_of between form) close bad (closable between close item) so_far is_other (later_fails between close _ _ bad item skips fails)

-- or what must stand between two is missing
pub items_parted : {A B : Type 0} {form : A → List Lexeme → Type 0} {goes_on : Word → Type 0} {whole : B → List Lexeme → Type 0} {to : List A × Unit {0} → B} {tokens rest : List Lexeme} (between : Between) (close : Word) (bad : Option (List Lexeme)) → IsItem between close form goes_on
    → IsPartWay whole (closing_of (later_of between form) close) closed to tokens rest → IsOther close rest → IsMissing between rest → bad ≡ Some rest → Fails whole closed tokens bad
items_parted {form = form} {goes_on} {rest = rest} between close bad item so_far is_other missing is = closing_more_fails (later_of between form) close bad (closable between close item) so_far is_other
    (subst (λ b. Fails (later_of between form) goes_on rest b) (sym is) (record { why = later_missing between close rest item missing }))

-- the closing sign
pub items_end : {A : Type 0} {form : A → List Lexeme → Type 0} {goes_on : Word → Type 0} {whole : List A → List Lexeme → Type 0} {tokens rest after : List Lexeme} (between : Between) (close : Word) (all : List A) → IsItem between close form goes_on
    → IsPartWay whole (closing_of (later_of between form) close) closed (λ v. all ++ v.0) tokens rest → IsTaken close rest after → IsRead whole closed tokens all after
items_end {form = form} {rest = rest} {after} between close all item so_far is = closing_read (later_of between form) close (λ xs. xs) all (closable between close item) so_far (next_of close is.0 rest after is.1 is.2) (taken close rest after is)

-- A list behind its opening sign.
pub opened_reads : {A X : Type 0} (open_word : Word) (form : A → List Lexeme → Type 0) (tokens start rest : List Lexeme) (view : X → A) (r : Result X Stop) → IsRead (IsSign open_word) closed tokens tt start → Reads form closed start rest view r → Reads (opened open_word form) closed tokens rest view r
opened_reads open_word form tokens start rest view (Ok x) first read = opened_read open_word form first read
opened_reads open_word form tokens start rest view (Err e) first fails = opened_fails open_word form (bad_of e rest) first fails

-- the tokens don't begin with a word where they begin with another
other_word : (w : Word) (words : Word → Type 0) (ts : List Lexeme) → ((v : Word) → words v → v ≡ w → ⊥) → StartsIn words ts → IsOther w ts
other_word w words [] apart starts = absurd starts
other_word w words (t ∷ ts) apart starts = apart t.word starts

-- Items that start with a word of their own.
pub starting_item : {A : Type 0} {form : A → List Lexeme → Type 0} {goes_on : Word → Type 0} (between : Between) (close : Word) (words : Word → Type 0) → HasSample form → AllStartIn words form → ((v : Word) → words v → v ≡ word.Minus → ⊥) → ((v : Word) → words v → v ≡ word.Comma → ⊥) → ((v : Word) → words v → v ≡ close → ⊥)
    → (close ≡ word.Comma → ⊥) × (close ≡ word.Bar → ⊥) → Ends goes_on (closing_of (later_of between form) close) closed → IsItem between close form goes_on
starting_item between close words sample starts no_minus no_comma no_close closes ends = record {
  alone = record { value = sample.value; tokens = sample.tokens; spelled = (sample.spelled, other_word word.Minus words sample.tokens no_minus (starts.starts sample.value sample.tokens sample.spelled)) };
  no_comma = record { starts = λ a ts is. starts_wider words (other_than word.Comma) ts no_comma (starts.starts a ts is) };
  no_close = record { starts = λ a ts is. starts_wider words (other_than close) ts no_close (starts.starts a ts is) };
  closes = closes;
  ends = ends;
}

pub named_item : {A : Type 0} {form : A → List Lexeme → Type 0} {goes_on : Word → Type 0} (between : Between) (close : Word) → HasSample form → AllStartIn (λ w. w ≡ word.Id) form → (close ≡ word.Id → ⊥) → (close ≡ word.Comma → ⊥) × (close ≡ word.Bar → ⊥) → Ends goes_on (closing_of (later_of between form) close) closed → IsItem between close form goes_on
named_item between close sample starts no_name closes ends = starting_item between close (λ w. w ≡ word.Id) sample starts (λ v is e. let f : word.Id ≡ word.Minus = sym is ∙ e in cc) (λ v is e. let f : word.Id ≡ word.Comma = sym is ∙ e in cc) (λ v is e. no_name (sym e ∙ is)) closes ends

-- what stands behind an item with bars starts with a bar or the closing sign
pub bar_tail : {A : Type 0} (form : A → List Lexeme → Type 0) (close : Word) → AllStartIn (λ w. (w ≡ word.Bar) ⊎ (w ≡ close)) (closing_of (later_of gap.Bar form) close)
bar_tail {A} form close = record { starts = λ v ts spelled. each v.0 ts spelled }
  where
    each : (xs : List A) (ts : List Lexeme) → (Many (later_of gap.Bar form) xs ⌢ sign close) ts → StartsIn (λ w. (w ≡ word.Bar) ⊎ (w ≡ close)) ts
    each [] ts spelled = starts_wider (λ w. w ≡ close) (λ w. (w ≡ word.Bar) ⊎ (w ≡ close)) ts (λ w h. inr h) ((sign_starts close).starts tt ts (skip_nothing (sign close) ts spelled))
    each (x ∷ xs) ts spelled = starts_joined _ _ _ ts (λ l many. starts_joined _ _ _ l (λ k later. starts_joined _ _ _ k (λ m is. starts_wider (λ w. w ≡ word.Bar) (λ w. (w ≡ word.Bar) ⊎ (w ≡ close)) m (λ w h. inl h) ((sign_starts word.Bar).starts tt m is)) later) many) spelled

-- what stands between two items isn't put back
taken_fewer : (w : Word) (tokens rest : List Lexeme) → IsTaken w tokens rest → length rest ≤ length tokens
taken_fewer w tokens rest is = omega (arith, ap length is.1)

same_many : (tokens rest : List Lexeme) → rest ≡ tokens → length rest ≤ length tokens
same_many tokens rest is = omega (arith, ap length is)

pub skips_fewer : (between : Between) (tokens rest : List Lexeme) → SkipsTo between tokens rest → length rest ≤ length tokens
skips_fewer gap.Nothing tokens rest is = same_many tokens rest is
skips_fewer gap.Comma tokens rest (inl is) = taken_fewer _ tokens rest is
skips_fewer gap.Comma tokens rest (inr is) = same_many tokens rest is.0
skips_fewer gap.LabelComma tokens rest (inl is) = taken_fewer _ tokens rest is
skips_fewer gap.LabelComma tokens rest (inr is) = same_many tokens rest is.0
skips_fewer gap.Bar tokens rest is = taken_fewer _ tokens rest is
