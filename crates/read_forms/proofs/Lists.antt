-- Forms one behind the other: how they are grouped, and lists of them.
use Rattle.std.proofs.Common.{◌≡◌, List, [], ◌∷◌, ◌++◌, refl, sym, ap, ◌∙◌, subst, append_assoc, append-nil, Option, ◌⊎◌, inl, inr}
use Rattle.model_program.specs.declared.Word.{Word}
use Rattle.model_program.specs.Lexeme.{Lexeme}
use Rattle.model_program.specs.Joined.{◌⌢◌, Nothing, ◌⊗◌}
use Rattle.read_forms.specs.Reads.{Stops, IsRead, Fails, StartsIn, closed}
use Rattle.model_program.specs.Grammar.{IsSign, sign, Many}
use Rattle.read_forms.specs.Parts.{HasSample, AllStartIn}
use Rattle.read_forms.proofs.Forms.{Makes, as_read, as_fails, then_read, then_fails, first_fails, ends_closed, regroup, starts_joined, left_out, stands, remade}

-- what is read of what is left is read of the whole
pub record IsPartWay {A B : Type 0} (whole : A → List Lexeme → Type 0) (left : B → List Lexeme → Type 0) (goes_on : Word → Type 0) (to : B → A) (tokens rest : List Lexeme) : Type 0 where
  pub read : (b : B) (behind : List Lexeme) → IsRead left goes_on rest b behind → IsRead whole goes_on tokens (to b) behind
  pub fails : (bad : Option (List Lexeme)) → Fails left goes_on rest bad → Fails whole goes_on tokens bad

pub to_left : (p q r : List Lexeme → Type 0) (ts : List Lexeme) → (p ⌢ (q ⌢ r)) ts → ((p ⌢ q) ⌢ r) ts
to_left p q r ts joined = record {
  front = joined.front ++ joined.at_back.front;
  back = joined.at_back.back;
  split = joined.split ∙ ap (λ l. joined.front ++ l) joined.at_back.split ∙ sym (regroup joined.front joined.at_back.front joined.at_back.back);
  at_front = record { front = joined.front; back = joined.at_back.front; split = refl; at_front = joined.at_front; at_back = joined.at_back.at_front };
  at_back = joined.at_back.at_back;
}

pub to_right : (p q r : List Lexeme → Type 0) (ts : List Lexeme) → ((p ⌢ q) ⌢ r) ts → (p ⌢ (q ⌢ r)) ts
to_right p q r ts joined = record {
  front = joined.at_front.front;
  back = joined.at_front.back ++ joined.back;
  split = joined.split ∙ ap (λ l. l ++ joined.back) joined.at_front.split ∙ regroup joined.at_front.front joined.at_front.back joined.back;
  at_front = joined.at_front.at_front;
  at_back = record { front = joined.at_front.back; back = joined.back; split = refl; at_front = joined.at_front.at_back; at_back = joined.at_back };
}

-- nothing in front
pub skip_nothing : (p : List Lexeme → Type 0) (ts : List Lexeme) → (Nothing ⌢ p) ts → p ts
skip_nothing p ts joined = subst p (sym (joined.split ∙ ap (λ l. l ++ joined.back) joined.at_front)) joined.at_back

pub put_nothing : (p : List Lexeme → Type 0) (ts : List Lexeme) → p ts → (Nothing ⌢ p) ts
put_nothing p ts is_p = record { front = []; back = ts; split = refl; at_front = refl; at_back = is_p }

-- a form behind its opening sign
abbrev pub opened : {A : Type 0} → Word → (A → List Lexeme → Type 0) → A → List Lexeme → Type 0
opened open_word form a = sign open_word ⌢ form a

pub opened_makes : {A : Type 0} (open_word : Word) (form : A → List Lexeme → Type 0) (goes_on : Word → Type 0) (tokens : List Lexeme) → Makes (IsSign open_word ⊗ form) (opened open_word form) (λ v. v.1) goes_on tokens
opened_makes open_word form goes_on tokens = remade (λ v ts spelled. spelled) (λ b ts spelled. ((tt, b), spelled, refl))

pub opened_read : {A : Type 0} (open_word : Word) (form : A → List Lexeme → Type 0) {goes_on : Word → Type 0} {tokens middle rest : List Lexeme} {a : A} → IsRead (IsSign open_word) closed tokens tt middle → IsRead form goes_on middle a rest → IsRead (opened open_word form) goes_on tokens a rest
opened_read open_word form {goes_on} first second = as_read (opened_makes open_word form goes_on _) (then_read (ends_closed form goes_on) first second)

pub opened_fails : {A : Type 0} (open_word : Word) (form : A → List Lexeme → Type 0) {goes_on : Word → Type 0} {tokens middle : List Lexeme} (bad : Option (List Lexeme)) → IsRead (IsSign open_word) closed tokens tt middle → Fails form goes_on middle bad → Fails (opened open_word form) goes_on tokens bad
opened_fails open_word form {goes_on} bad first second = as_fails bad (opened_makes open_word form goes_on _) (then_fails bad (ends_closed form goes_on) first second)

pub open_fails : {A : Type 0} (open_word : Word) (form : A → List Lexeme → Type 0) {goes_on : Word → Type 0} {tokens : List Lexeme} (bad : Option (List Lexeme)) → HasSample form → Fails (IsSign open_word) closed tokens bad → Fails (opened open_word form) goes_on tokens bad
open_fails open_word form {goes_on} bad sample first = as_fails bad (opened_makes open_word form goes_on _) (first_fails bad (ends_closed form goes_on) sample first)

-- A list without separators, of items that end by themselves: where a word comes by which it goes on, an item comes.
pub many_make : {A : Type 0} (form : A → List Lexeme → Type 0) {goes_on : Word → Type 0} (tokens : List Lexeme) → StartsIn goes_on tokens → Makes (form ⊗ Many form) (Many form) (λ v. v.0 ∷ v.1) goes_on tokens
many_make {A} form tokens starts = stands tokens (λ v ts spelled. spelled) (λ b ts spelled. back b ts spelled) starts
  where
    back : (b : List A) (ts : List Lexeme) → Many form b ts → (ts ≡ []) ⊎ ((v : A × List A) × (form ⊗ Many form) v ts × (b ≡ v.0 ∷ v.1))
    back [] ts spelled = inl spelled
    back (x ∷ xs) ts spelled = inr ((x, xs), spelled, refl)

-- where no item starts, it has ended
pub many_end : {A : Type 0} {words : Word → Type 0} (form : A → List Lexeme → Type 0) {goes_on : Word → Type 0} (tokens : List Lexeme) → AllStartIn words form → Stops words tokens → IsRead (Many form) goes_on tokens [] tokens
many_end {A} {words} form tokens all stops = left_out words tokens [] refl (λ b ts spelled. each b ts spelled) stops
  where
    each : (b : List A) (ts : List Lexeme) → Many form b ts → ((b ≡ []) × (ts ≡ [])) ⊎ StartsIn words ts
    each [] ts spelled = inl (refl, spelled)
    each (x ∷ xs) ts spelled = inr (starts_joined _ (form x) (Many form xs) ts (all.starts x) spelled)

pub sample_many : {A : Type 0} (form : A → List Lexeme → Type 0) → HasSample (Many form)
sample_many form = record { value = []; tokens = []; spelled = refl }

-- behind what has been read of a list without separators, the next item is read
pub many_more : {A B : Type 0} {whole : B → List Lexeme → Type 0} {goes_on : Word → Type 0} (form : A → List Lexeme → Type 0) (to : List A → B) {tokens rest after : List Lexeme} {x : A} (all new : List A)
    → IsPartWay whole (Many form) goes_on (λ b. to (all ++ b)) tokens rest → StartsIn goes_on rest → IsRead form closed rest x after → new ≡ all ++ x ∷ [] → IsPartWay whole (Many form) goes_on (λ b. to (new ++ b)) tokens after
many_more {A} {B} {whole} {goes_on} form to {tokens} {rest} {x = x} all new so_far starts item is_new = record {
  read = λ b end more. subst (λ (l : List A). IsRead whole goes_on tokens (to l) end) (sym (append_assoc all (x ∷ []) b) ∙ ap (λ l. l ++ b) (sym is_new)) (so_far.read (x ∷ b) end (as_read (many_make form rest starts) (then_read (ends_closed (Many form) goes_on) item more)));
  fails = λ bad more. so_far.fails bad (as_fails bad (many_make form rest starts) (then_fails bad (ends_closed (Many form) goes_on) item more));
}

pub many_more_fails : {A B : Type 0} {whole : B → List Lexeme → Type 0} {goes_on : Word → Type 0} (form : A → List Lexeme → Type 0) {to : List A → B} {tokens rest : List Lexeme} (bad : Option (List Lexeme))
    → IsPartWay whole (Many form) goes_on to tokens rest → StartsIn goes_on rest → Fails form closed rest bad → Fails whole goes_on tokens bad
many_more_fails {goes_on = goes_on} form {rest = rest} bad so_far starts item = so_far.fails bad (as_fails bad (many_make form rest starts) (first_fails bad (ends_closed (Many form) goes_on) (sample_many form) item))

pub many_ends : {A B : Type 0} {words : Word → Type 0} {whole : B → List Lexeme → Type 0} {goes_on : Word → Type 0} (form : A → List Lexeme → Type 0) (to : List A → B) {tokens rest : List Lexeme} (all : List A)
    → AllStartIn words form → IsPartWay whole (Many form) goes_on (λ b. to (all ++ b)) tokens rest → Stops words rest → IsRead whole goes_on tokens (to all) rest
many_ends {A} {B} {words} {whole} {goes_on} form to {tokens} {rest} all starts so_far stops = subst (λ (l : List A). IsRead whole goes_on tokens (to l) rest) (append-nil all) (so_far.read [] rest (many_end form rest starts stops))
