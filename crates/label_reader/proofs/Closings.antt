-- Lists of items, one behind the other, to the sign that closes them.
use Rattle.std.proofs.Common.{◌≡◌, List, [], ◌∷◌, ◌++◌, refl, sym, ap, ◌∙◌, subst, append_assoc, append-nil, Option, ◌⊎◌, inl, inr}
use Rattle.model_program.specs.declared.Word.{Word}
use Rattle.model_program.specs.Lexeme.{Lexeme}
use Rattle.model_program.specs.Joined.{◌⌢◌, IsNext, IsOther, ◌⊗◌}
use Rattle.read_forms.specs.Reads.{IsRead, Fails, StartsIn, closed}
use Rattle.model_program.specs.Grammar.{IsSign, sign, Many}
use Rattle.label_reader.specs.Lists.{closing_of}
use Rattle.read_forms.specs.Parts.{Ends, HasSample, AllStartIn, other_than}
use Rattle.read_forms.proofs.Forms.{Makes, as_read, as_fails, then_read, then_fails, first_fails, starts_joined, stops_next, stops_other, alternative, remade}
use Rattle.read_forms.proofs.Words.{sign_starts, sample_sign}
use Rattle.read_forms.specs.Fronts.{Leaves, Done, Made, Through}
use Rattle.read_forms.proofs.Lists.{IsPartWay, to_left, to_right, skip_nothing, put_nothing}
use Rattle.read_forms.proofs.Fronts.{left_leaves, left_as, left_made, none_left, made_makes, makes_of_made}

-- The items are told apart from the closing sign by their first words, and what stands behind an item ends it.
pub record IsClosable {A : Type 0} (item : A → List Lexeme → Type 0) (goes_on : Word → Type 0) (close : Word) : Type 0 where
  pub apart : AllStartIn (other_than close) item
  pub ends : Ends goes_on (closing_of item close) closed

pub closing_ends : {A : Type 0} {goes_on : Word → Type 0} (item : A → List Lexeme → Type 0) (close : Word) → IsClosable item goes_on close → (tokens : List Lexeme) → IsNext close tokens → Makes (IsSign close) (closing_of item close) (λ _. ([], tt)) closed tokens
closing_ends {A} item close closable tokens is_next = alternative (other_than close) tokens (λ _ ts is_sign. put_nothing (sign close) ts is_sign) (λ b ts spelled. back b ts spelled) (stops_next close (other_than close) tokens is_next (λ h. h refl))
  where
    back : (b : List A × Unit {0}) (ts : List Lexeme) → closing_of item close b ts → StartsIn (other_than close) ts ⊎ ((u : Unit {0}) × IsSign close u ts × (b ≡ ([], tt)))
    back ([], u) ts spelled = inr (tt, skip_nothing (sign close) ts spelled, refl)
    back (x ∷ xs, u) ts spelled = inl (starts_joined _ (item x ⌢ Many item xs) (sign close) ts (λ l joined. starts_joined _ (item x) (Many item xs) l (closable.apart.starts x) joined) spelled)

pub closing_goes_on : {A : Type 0} (item : A → List Lexeme → Type 0) (close : Word) (tokens : List Lexeme) → IsOther close tokens → Makes (item ⊗ closing_of item close) (closing_of item close) (λ v. (v.0 ∷ v.1.0, tt)) closed tokens
closing_goes_on {A} item close tokens is_other = alternative (λ w. w ≡ close) tokens (λ v ts spelled. to_left (item v.0) (Many item v.1.0) (sign close) ts spelled) (λ b ts spelled. back b ts spelled) (stops_other close tokens is_other)
  where
    back : (b : List A × Unit {0}) (ts : List Lexeme) → closing_of item close b ts → StartsIn (λ w. w ≡ close) ts ⊎ ((v : A × (List A × Unit {0})) × (item ⊗ closing_of item close) v ts × (b ≡ (v.0 ∷ v.1.0, tt)))
    back ([], u) ts spelled = inl ((sign_starts close).starts tt ts (skip_nothing (sign close) ts spelled))
    back (x ∷ xs, u) ts spelled = inr ((x, (xs, tt)), to_right (item x) (Many item xs) (sign close) ts spelled, refl)

pub sample_closing : {A : Type 0} (item : A → List Lexeme → Type 0) (close : Word) → HasSample (closing_of item close)
sample_closing item close = let s = sample_sign close in record { value = ([], tt); tokens = s.tokens; spelled = put_nothing (sign close) s.tokens s.spelled }

-- behind what has been read of a list, one more item is read
pub closing_more : {A B : Type 0} {goes_on : Word → Type 0} {whole : B → List Lexeme → Type 0} (item : A → List Lexeme → Type 0) (close : Word) (to : List A → B) {tokens rest after : List Lexeme} {x : A} (all new : List A) → IsClosable item goes_on close
    → IsPartWay whole (closing_of item close) closed (λ v. to (all ++ v.0)) tokens rest → IsOther close rest → IsRead item goes_on rest x after → new ≡ all ++ x ∷ [] → IsPartWay whole (closing_of item close) closed (λ v. to (new ++ v.0)) tokens after
closing_more {A} {B} {whole = whole} item close to {tokens} {rest} {x = x} all new closable so_far is_other read is_new = record {
  read = λ b end more. subst (λ (l : List A). IsRead whole closed tokens (to l) end) (moved b.0) (so_far.read (x ∷ b.0, tt) end (as_read (closing_goes_on item close rest is_other) (then_read closable.ends read more)));
  fails = λ bad more. so_far.fails bad (as_fails bad (closing_goes_on item close rest is_other) (then_fails bad closable.ends read more));
}
  where
    moved : (xs : List A) → all ++ (x ∷ xs) ≡ new ++ xs
    moved xs = sym (append_assoc all (x ∷ []) xs) ∙ ap (λ l. l ++ xs) (sym is_new)

-- or is refused
pub closing_more_fails : {A B : Type 0} {goes_on : Word → Type 0} {whole : B → List Lexeme → Type 0} (item : A → List Lexeme → Type 0) (close : Word) {to : List A × Unit {0} → B} {tokens rest : List Lexeme} (bad : Option (List Lexeme)) → IsClosable item goes_on close
    → IsPartWay whole (closing_of item close) closed to tokens rest → IsOther close rest → Fails item goes_on rest bad → Fails whole closed tokens bad
closing_more_fails item close {rest = rest} bad closable so_far is_other fails = so_far.fails bad (as_fails bad (closing_goes_on item close rest is_other) (first_fails bad closable.ends (sample_closing item close) fails))

-- the closing sign is read
pub closing_read : {A B : Type 0} {goes_on : Word → Type 0} {whole : B → List Lexeme → Type 0} (item : A → List Lexeme → Type 0) (close : Word) (to : List A → B) {tokens rest after : List Lexeme} (all : List A) → IsClosable item goes_on close
    → IsPartWay whole (closing_of item close) closed (λ v. to (all ++ v.0)) tokens rest → IsNext close rest → IsRead (IsSign close) closed rest tt after → IsRead whole closed tokens (to all) after
closing_read {A} {B} {whole = whole} item close to {tokens} {rest} {after} all closable so_far is_next end =
    subst (λ (l : List A). IsRead whole closed tokens (to l) after) (append-nil all) (so_far.read ([], tt) after (as_read (closing_ends item close closable rest is_next) end))

-- a list that ends by its closing sign
abbrev pub to_close : {A : Type 0} → (A → List Lexeme → Type 0) → Word → List A → List Lexeme → Type 0
to_close item close xs = Many item xs ⌢ sign close

to_close_makes : {A : Type 0} (item : A → List Lexeme → Type 0) (close : Word) (tokens : List Lexeme) → Makes (closing_of item close) (to_close item close) (λ v. v.0) closed tokens
to_close_makes item close tokens = remade (λ v ts spelled. spelled) (λ b ts spelled. ((b, tt), spelled, refl))

-- before anything has been read of it
pub closing_begins : {A : Type 0} (item : A → List Lexeme → Type 0) (close : Word) (tokens : List Lexeme) (none : List A) → none ≡ [] → IsPartWay (to_close item close) (closing_of item close) closed (λ v. none ++ v.0) tokens tokens
closing_begins {A} item close tokens none is_none = subst (λ (l : List A). IsPartWay (to_close item close) (closing_of item close) closed (λ v. l ++ v.0) tokens tokens) (sym is_none) (record {
  read = λ b end more. as_read (to_close_makes item close tokens) more;
  fails = λ bad more. as_fails bad (to_close_makes item close tokens) more;
})

pub sample_to_close : {A : Type 0} (item : A → List Lexeme → Type 0) (close : Word) → HasSample (to_close item close)
sample_to_close item close = let s = sample_sign close in record { value = []; tokens = s.tokens; spelled = put_nothing (sign close) s.tokens s.spelled }

-- What is left of an open node behind some children: further ones and the closing sign.
abbrev pub Row : {A X : Type 0} → (A → List Lexeme → Type 0) → Word → (List A → X) → List A → X → List Lexeme → Type 0
Row item close node xs = Made (λ more. node (xs ++ more)) (to_close item close)

row_makes : {A X : Type 0} (item : A → List Lexeme → Type 0) (close : Word) (node : List A → X) (xs : List A) (tokens : List Lexeme) → Makes (closing_of item close) (Row item close node xs) (λ v. node (xs ++ v.0)) closed tokens
row_makes item close node xs tokens = makes_of_made (to_close_makes item close tokens) (made_makes (λ more. node (xs ++ more)) (to_close item close))

row_part_way : {A X : Type 0} (item : A → List Lexeme → Type 0) (close : Word) (node : List A → X) (xs : List A) (tokens : List Lexeme) → IsPartWay (Row item close node xs) (closing_of item close) closed (λ v. node (xs ++ v.0)) tokens tokens
row_part_way item close node xs tokens = record { read = λ b end more. as_read (row_makes item close node xs tokens) more; fails = λ bad more. as_fails bad (row_makes item close node xs tokens) more }

-- the closing sign comes
pub row_ends : {A X : Type 0} {goes_on : Word → Type 0} (item : A → List Lexeme → Type 0) (close : Word) (node : List A → X) (xs : List A) {tokens rest : List Lexeme} → IsClosable item goes_on close → IsNext close tokens → IsRead (IsSign close) closed tokens tt rest → Leaves (Row item close node xs) (Done (node xs)) closed tokens rest
row_ends item close node xs {tokens} closable is_next end = none_left (closing_read item close node xs closable (row_part_way item close node xs tokens) is_next end)

-- one more child comes
pub row_goes_on : {A X : Type 0} (item : A → List Lexeme → Type 0) (close : Word) (node : List A → X) (xs : List A) {tokens : List Lexeme} → IsOther close tokens → Leaves (Row item close node xs) (Through item (λ x. Row item close node (xs ++ x ∷ []))) closed tokens tokens
row_goes_on item close node xs {tokens} is_other = left_leaves (left_made (makes_of_made (closing_goes_on item close tokens is_other) (row_makes item close node xs tokens))) (left_as
    (λ a ts through.
    let s = through.joined in let row = s.at_back in
    record { of = (through.middle, (row.of, tt)); spelled = record { front = s.front; back = s.back; split = s.split; at_front = s.at_front; at_back = row.spelled }; is = row.is ∙ ap node (append_assoc xs (through.middle ∷ []) row.of) })
    (λ a ts made.
    let s = made.spelled in
    record { middle = made.of.0; joined = record { front = s.front; back = s.back; split = s.split; at_front = s.at_front; at_back = record { of = made.of.1.0; spelled = s.at_back; is = made.is ∙ ap node (sym (append_assoc xs (made.of.0 ∷ []) made.of.1.0)) } } }))
