-- How what was read of the parts of a form joins into what was read of the whole.
use Rattle.std.proofs.Common.{◌≡◌, List, [], ◌∷◌, ◌++◌, refl, sym, ap, ◌∙◌, subst, append_assoc, Option, Some, None, ◌⊎◌, inl, inr}
use Rattle.model_program.specs.declared.Word.{Word}
use Rattle.model_program.specs.Lexeme.{Lexeme}
use Rattle.model_program.specs.Joined.{◌⌢◌, ◌⊗◌, IsNext, IsOther}
use Rattle.read_forms.specs.Reads.{GoesOnAs, Stops, IsRead, IsRefused, Fails, StartsIn, closed}
use Rattle.read_forms.specs.Parts.{Ends, HasSample, AllStartIn, other_than}

-- what goes on as a list does still does behind the same tokens
pub goes_on_behind : (part rest more : List Lexeme) → GoesOnAs rest more → GoesOnAs (part ++ rest) (part ++ more)
goes_on_behind [] rest more as_rest = as_rest
goes_on_behind (t ∷ ts) rest more as_rest = (ts ++ more, refl)

pub stops_closed : (tokens : List Lexeme) → Stops closed tokens
stops_closed [] = tt
stops_closed (t ∷ ts) = λ none. none

pub regroup : (a b c : List Lexeme) → (a ++ b) ++ c ≡ a ++ (b ++ c)
regroup a b c = append_assoc a b c

-- a form, and one behind it that depends on the value of the first
abbrev pub Chained : {A B : Type 0} → (A → List Lexeme → Type 0) → (A → B → List Lexeme → Type 0) → A × B → List Lexeme → Type 0
Chained p q ab = p ab.0 ⌢ q ab.0 ab.1

-- A form was read, and behind it another, which ends the first.
pub chained_read : {A B : Type 0} {p : A → List Lexeme → Type 0} {q : A → B → List Lexeme → Type 0} {first_goes_on goes_on : Word → Type 0} {tokens middle rest : List Lexeme} {a : A} {b : B}
    → ((x : A) → Ends first_goes_on (q x) goes_on) → IsRead p first_goes_on tokens a middle → IsRead (q a) goes_on middle b rest → IsRead (Chained p q) goes_on tokens (a, b) rest
chained_read {A} {B} {p} {q} {first_goes_on} {goes_on} {tokens} {middle} {rest} {a} {b} ends first second = record {
  part = first.part ++ second.part;
  split = first.split ∙ ap (λ l. first.part ++ l) second.split ∙ sym (regroup first.part second.part rest);
  spelled = record { front = first.part; back = second.part; split = refl; at_front = first.spelled; at_back = second.spelled };
  only = λ more other after w as_rest same is_form stops.
      let as_middle : GoesOnAs middle (second.part ++ more) = subst (λ (m : List Lexeme). GoesOnAs m (second.part ++ more)) (sym second.split) (goes_on_behind second.part rest more as_rest) in
      let grouped : first.part ++ (second.part ++ more) ≡ is_form.front ++ (is_form.back ++ after) = sym (regroup first.part second.part more) ∙ same ∙ ap (λ l. l ++ after) is_form.split ∙ regroup is_form.front is_form.back after in
      let one = first.only (second.part ++ more) is_form.front (is_form.back ++ after) w.0 as_middle grouped is_form.at_front (ends w.0 w.1 is_form.back after is_form.at_back stops) in
      let two = second.only more is_form.back after w.1 as_rest (sym one.1) (subst (λ (x : A). q x w.1 is_form.back) one.0 is_form.at_back) stops in
      let same_pair : w ≡ (a, b) = λ i. (one.0 i, two.0 i) in
      (same_pair, two.1);
}

-- A form was read, and behind it another was refused, which ends the first.
chained_refused : {A B : Type 0} {p : A → List Lexeme → Type 0} {q : A → B → List Lexeme → Type 0} {first_goes_on goes_on : Word → Type 0} {tokens middle bad : List Lexeme} {a : A}
    → ((x : A) → Ends first_goes_on (q x) goes_on) → IsRead p first_goes_on tokens a middle → IsRefused (q a) goes_on middle bad → IsRefused (Chained p q) goes_on tokens bad
chained_refused {A} {B} {p} {q} {first_goes_on} {goes_on} {tokens} {middle} {bad} {a} ends first second = record {
  part = first.part ++ second.part;
  split = first.split ∙ ap (λ l. first.part ++ l) second.split ∙ sym (regroup first.part second.part bad);
  value = (a, second.value);
  later = second.later;
  begins = record { front = first.part; back = second.part ++ second.later; split = regroup first.part second.part second.later; at_front = first.spelled; at_back = second.begins };
  none = λ more other after w as_bad same is_form stops.
      let as_middle : GoesOnAs middle (second.part ++ more) = subst (λ (m : List Lexeme). GoesOnAs m (second.part ++ more)) (sym second.split) (goes_on_behind second.part bad more as_bad) in
      let grouped : first.part ++ (second.part ++ more) ≡ is_form.front ++ (is_form.back ++ after) = sym (regroup first.part second.part more) ∙ same ∙ ap (λ l. l ++ after) is_form.split ∙ regroup is_form.front is_form.back after in
      let one = first.only (second.part ++ more) is_form.front (is_form.back ++ after) w.0 as_middle grouped is_form.at_front (ends w.0 w.1 is_form.back after is_form.at_back stops) in
      second.none more is_form.back after w.1 as_bad (sym one.1) (subst (λ (x : A). q x w.1 is_form.back) one.0 is_form.at_back) stops;
}

-- The first of two forms was refused, and the second can be spelled.
chained_first_refused : {A B : Type 0} {p : A → List Lexeme → Type 0} {q : A → B → List Lexeme → Type 0} {first_goes_on goes_on : Word → Type 0} {tokens bad : List Lexeme}
    → ((x : A) → Ends first_goes_on (q x) goes_on) → ((x : A) → HasSample (q x)) → IsRefused p first_goes_on tokens bad → IsRefused (Chained p q) goes_on tokens bad
chained_first_refused {A} {B} {p} {q} {first_goes_on} {goes_on} {tokens} {bad} ends sample first =
    let s = sample first.value in record {
      part = first.part;
      split = first.split;
      value = (first.value, s.value);
      later = first.later ++ s.tokens;
      begins = record { front = first.part ++ first.later; back = s.tokens; split = sym (regroup first.part first.later s.tokens); at_front = first.begins; at_back = s.spelled };
      none = λ more other after w as_bad same is_form stops.
          first.none more is_form.front (is_form.back ++ after) w.0 as_bad (same ∙ ap (λ l. l ++ after) is_form.split ∙ regroup is_form.front is_form.back after) is_form.at_front (ends w.0 w.1 is_form.back after is_form.at_back stops);
    }

pub chained_fails : {A B : Type 0} {p : A → List Lexeme → Type 0} {q : A → B → List Lexeme → Type 0} {first_goes_on goes_on : Word → Type 0} {tokens middle : List Lexeme} {a : A} (bad : Option (List Lexeme))
    → ((x : A) → Ends first_goes_on (q x) goes_on) → IsRead p first_goes_on tokens a middle → Fails (q a) goes_on middle bad → Fails (Chained p q) goes_on tokens bad
chained_fails None ends first fails = record { why = tt }
chained_fails (Some bad) ends first fails = record { why = chained_refused ends first fails.why }

pub chained_first_fails : {A B : Type 0} {p : A → List Lexeme → Type 0} {q : A → B → List Lexeme → Type 0} {first_goes_on goes_on : Word → Type 0} {tokens : List Lexeme} (bad : Option (List Lexeme))
    → ((x : A) → Ends first_goes_on (q x) goes_on) → ((x : A) → HasSample (q x)) → Fails p first_goes_on tokens bad → Fails (Chained p q) goes_on tokens bad
chained_first_fails None ends sample fails = record { why = tt }
chained_first_fails (Some bad) ends sample fails = record { why = chained_first_refused ends sample fails.why }

-- the same of forms that don't depend on one another
pub then_read : {A B : Type 0} {p : A → List Lexeme → Type 0} {q : B → List Lexeme → Type 0} {first_goes_on goes_on : Word → Type 0} {tokens middle rest : List Lexeme} {a : A} {b : B}
    → Ends first_goes_on q goes_on → IsRead p first_goes_on tokens a middle → IsRead q goes_on middle b rest → IsRead (p ⊗ q) goes_on tokens (a, b) rest
then_read {q} ends first second = chained_read {q = λ a. q} (λ a. ends) first second

pub then_fails : {A B : Type 0} {p : A → List Lexeme → Type 0} {q : B → List Lexeme → Type 0} {first_goes_on goes_on : Word → Type 0} {tokens middle : List Lexeme} {a : A} (bad : Option (List Lexeme))
    → Ends first_goes_on q goes_on → IsRead p first_goes_on tokens a middle → Fails q goes_on middle bad → Fails (p ⊗ q) goes_on tokens bad
then_fails {q} bad ends first fails = chained_fails {q = λ a. q} bad (λ a. ends) first fails

pub first_refused : {A B : Type 0} {p : A → List Lexeme → Type 0} {q : B → List Lexeme → Type 0} {first_goes_on goes_on : Word → Type 0} {tokens bad : List Lexeme}
    → Ends first_goes_on q goes_on → HasSample q → IsRefused p first_goes_on tokens bad → IsRefused (p ⊗ q) goes_on tokens bad
first_refused {q} ends sample first = chained_first_refused {q = λ a. q} (λ a. ends) (λ a. sample) first

pub first_fails : {A B : Type 0} {p : A → List Lexeme → Type 0} {q : B → List Lexeme → Type 0} {first_goes_on goes_on : Word → Type 0} {tokens : List Lexeme} (bad : Option (List Lexeme))
    → Ends first_goes_on q goes_on → HasSample q → Fails p first_goes_on tokens bad → Fails (p ⊗ q) goes_on tokens bad
first_fails {q} bad ends sample fails = chained_first_fails {q = λ a. q} bad (λ a. ends) (λ a. sample) fails

-- a form that ends by itself is ended by anything
pub ends_closed : {B : Type 0} (q : B → List Lexeme → Type 0) (goes_on : Word → Type 0) → Ends closed q goes_on
ends_closed q goes_on w other after spelled stops = stops_closed (other ++ after)

-- At these tokens the values of one form are made of those of another, and the spellings are the same.
pub record Makes {A B : Type 0} (p : A → List Lexeme → Type 0) (q : B → List Lexeme → Type 0) (to : A → B) (goes_on : Word → Type 0) (tokens : List Lexeme) : Type 0 where
  pub into : (a : A) (ts : List Lexeme) → p a ts → q (to a) ts
  pub back : (b : B) (other after : List Lexeme) → GoesOnAs tokens (other ++ after) → q b other → Stops goes_on after → (a : A) × p a other × (b ≡ to a)

pub as_read : {A B : Type 0} {p : A → List Lexeme → Type 0} {q : B → List Lexeme → Type 0} {to : A → B} {goes_on : Word → Type 0} {tokens rest : List Lexeme} {a : A}
    → Makes p q to goes_on tokens → IsRead p goes_on tokens a rest → IsRead q goes_on tokens (to a) rest
as_read {to} {tokens} {rest} makes read = record {
  part = read.part;
  split = read.split;
  spelled = makes.into _ _ read.spelled;
  only = λ more other after w as_rest same is_form stops.
      let begins : GoesOnAs tokens (read.part ++ more) = subst (λ (m : List Lexeme). GoesOnAs m (read.part ++ more)) (sym read.split) (goes_on_behind read.part rest more as_rest) in
      let was = makes.back w other after (subst (λ (m : List Lexeme). GoesOnAs tokens m) same begins) is_form stops in
      let one = read.only more other after was.0 as_rest same was.1 stops in
      (was.2 ∙ ap to one.0, one.1);
}

pub as_refused : {A B : Type 0} {p : A → List Lexeme → Type 0} {q : B → List Lexeme → Type 0} {to : A → B} {goes_on : Word → Type 0} {tokens bad : List Lexeme}
    → Makes p q to goes_on tokens → IsRefused p goes_on tokens bad → IsRefused q goes_on tokens bad
as_refused {to} {tokens} {bad} makes refused = record {
  part = refused.part;
  split = refused.split;
  value = to refused.value;
  later = refused.later;
  begins = makes.into _ _ refused.begins;
  none = λ more other after w as_bad same is_form stops.
      let begins : GoesOnAs tokens (refused.part ++ more) = subst (λ (m : List Lexeme). GoesOnAs m (refused.part ++ more)) (sym refused.split) (goes_on_behind refused.part bad more as_bad) in
      let was = makes.back w other after (subst (λ (m : List Lexeme). GoesOnAs tokens m) same begins) is_form stops in
      refused.none more other after was.0 as_bad same was.1 stops;
}

pub as_fails : {A B : Type 0} {p : A → List Lexeme → Type 0} {q : B → List Lexeme → Type 0} {to : A → B} {goes_on : Word → Type 0} {tokens : List Lexeme} (bad : Option (List Lexeme))
    → Makes p q to goes_on tokens → Fails p goes_on tokens bad → Fails q goes_on tokens bad
as_fails None makes fails = record { why = tt }
as_fails (Some bad) makes fails = record { why = as_refused makes fails.why }

pub sample_pair : {A B : Type 0} {p : A → List Lexeme → Type 0} {q : B → List Lexeme → Type 0} → HasSample p → HasSample q → HasSample (p ⊗ q)
sample_pair p q = record { value = (p.value, q.value); tokens = p.tokens ++ q.tokens; spelled = record { front = p.tokens; back = q.tokens; split = refl; at_front = p.spelled; at_back = q.spelled } }

-- what one form can spell, another that is made of it can
pub sample_as : {A B : Type 0} {p : A → List Lexeme → Type 0} {q : B → List Lexeme → Type 0} (to : A → B) → ((a : A) (ts : List Lexeme) → p a ts → q (to a) ts) → HasSample p → HasSample q
sample_as to into p = record { value = to p.value; tokens = p.tokens; spelled = into p.value p.tokens p.spelled }

pub starts_append : (words : Word → Type 0) (a b : List Lexeme) → StartsIn words a → StartsIn words (a ++ b)
starts_append words [] b starts = absurd starts
starts_append words (t ∷ ts) b starts = starts

pub starts_wider : (words more_words : Word → Type 0) (ts : List Lexeme) → ((w : Word) → words w → more_words w) → StartsIn words ts → StartsIn more_words ts
starts_wider words more_words [] wider starts = absurd starts
starts_wider words more_words (t ∷ ts) wider starts = wider t.word starts

pub starts_not_empty : (words : Word → Type 0) (ts : List Lexeme) → StartsIn words ts → ts ≡ [] → ⊥
starts_not_empty words [] starts e = absurd starts
starts_not_empty words (t ∷ ts) starts e = cc

-- what starts with one of these words ends a form that goes on by none of them
pub stops_of : (words first_goes_on : Word → Type 0) (ts : List Lexeme) → ((w : Word) → words w → first_goes_on w → ⊥) → StartsIn words ts → Stops first_goes_on ts
stops_of words first_goes_on [] apart starts = tt
stops_of words first_goes_on (t ∷ ts) apart starts = apart t.word starts

pub stops_fewer : (words fewer : Word → Type 0) (ts : List Lexeme) → ((w : Word) → fewer w → words w) → Stops words ts → Stops fewer ts
stops_fewer words fewer [] wider stops = tt
stops_fewer words fewer (t ∷ ts) wider stops = λ h. stops (wider t.word h)

-- the next token is another word than these
pub stops_next : (w : Word) (words : Word → Type 0) (tokens : List Lexeme) → IsNext w tokens → (words w → ⊥) → Stops words tokens
stops_next w words [] is_next apart = tt
stops_next w words (t ∷ ts) is_next apart = λ h. apart (subst words is_next h)

pub stops_other : (w : Word) (tokens : List Lexeme) → IsOther w tokens → Stops (λ v. v ≡ w) tokens
stops_other w [] is_other = tt
stops_other w (t ∷ ts) is_other = is_other

pub stops_both : (some others : Word → Type 0) (tokens : List Lexeme) → Stops some tokens → Stops others tokens → Stops (λ w. some w ⊎ others w) tokens
stops_both some others [] a b = tt
stops_both some others (t ∷ ts) a b = λ h. elim h [ inl x ↦ a x | inr y ↦ b y ]

pub starts_next : (w : Word) (words : Word → Type 0) (tokens : List Lexeme) → IsNext w tokens → words w → StartsIn words tokens
starts_next w words [] is_next is_word = absurd is_next
starts_next w words (t ∷ ts) is_next is_word = subst words (sym is_next) is_word

pub ends_starting : {A : Type 0} {words : Word → Type 0} {first_goes_on : Word → Type 0} (q : A → List Lexeme → Type 0) (goes_on : Word → Type 0)
    → ((w : Word) → words w → first_goes_on w → ⊥) → AllStartIn words q → Ends first_goes_on q goes_on
ends_starting {words} {first_goes_on} q goes_on apart all w other after spelled stops = stops_of words first_goes_on (other ++ after) apart (starts_append words other after (all.starts w other spelled))

-- no tokens, or tokens that start with one of these words
abbrev pub StartsOrNone : (Word → Type 0) → List Lexeme → Type 0
StartsOrNone words ts = (ts ≡ []) ⊎ StartsIn words ts

-- a form that may be left out ends the one before it, where what stands behind it does
pub ends_left_out : {A : Type 0} {first_goes_on : Word → Type 0} (words : Word → Type 0) (q : A → List Lexeme → Type 0) (goes_on : Word → Type 0)
    → ((w : Word) → words w → first_goes_on w → ⊥) → ((w : Word) → first_goes_on w → goes_on w) → ((a : A) (ts : List Lexeme) → q a ts → StartsOrNone words ts) → Ends first_goes_on q goes_on
ends_left_out {first_goes_on} words q goes_on apart wider all w other after spelled stops =
    elim (all w other spelled) [
      | inl none ↦ subst (λ (l : List Lexeme). Stops first_goes_on (l ++ after)) (sym none) (stops_fewer goes_on first_goes_on after wider stops)
      | inr starts ↦ stops_of words first_goes_on (other ++ after) apart (starts_append words other after starts)
    ]

pub starts_joined : (words : Word → Type 0) (p q : List Lexeme → Type 0) (ts : List Lexeme) → ((l : List Lexeme) → p l → StartsIn words l) → (p ⌢ q) ts → StartsIn words ts
starts_joined words p q ts first joined = subst (λ (l : List Lexeme). StartsIn words l) (sym joined.split) (starts_append words joined.front joined.back (first joined.front joined.at_front))

pub starts_pair : {A B : Type 0} {words : Word → Type 0} {p : A → List Lexeme → Type 0} (q : B → List Lexeme → Type 0) → AllStartIn words p → AllStartIn words (p ⊗ q)
starts_pair q first = record { starts = λ ab ts joined. starts_joined _ _ _ ts (first.starts ab.0) joined }

-- where the next token is none of these words, nothing that goes on so starts with one
pub elsewhere : (words : Word → Type 0) (tokens more : List Lexeme) → Stops words tokens → GoesOnAs tokens more → StartsIn words more → ⊥
elsewhere words [] more stops as_tokens starts = absurd (subst (λ (l : List Lexeme). StartsIn words l) as_tokens starts)
elsewhere words (t ∷ ts) more stops as_tokens starts = stops (subst (λ (l : List Lexeme). StartsIn words l) as_tokens.1 starts)

-- what goes on as tokens that start so starts so
pub starts_as : (words : Word → Type 0) (tokens more : List Lexeme) → StartsIn words tokens → GoesOnAs tokens more → StartsIn words more
starts_as words [] more starts as_tokens = absurd starts
starts_as words (t ∷ ts) more starts as_tokens = subst (λ (l : List Lexeme). StartsIn words l) (sym as_tokens.1) starts

pub starts_stops : (words : Word → Type 0) (tokens : List Lexeme) → StartsIn words tokens → Stops words tokens → ⊥
starts_stops words [] starts stops = starts
starts_stops words (t ∷ ts) starts stops = stops starts

-- a form that was left out, where none of the words comes with which it starts
pub left_out : {A : Type 0} {form : A → List Lexeme → Type 0} {goes_on : Word → Type 0} (words : Word → Type 0) (tokens : List Lexeme) (a : A)
    → form a [] → ((b : A) (ts : List Lexeme) → form b ts → ((b ≡ a) × (ts ≡ [])) ⊎ StartsIn words ts) → Stops words tokens → IsRead form goes_on tokens a tokens
left_out {A} {form} {goes_on} words tokens a nothing all stops = record {
  part = [];
  split = refl;
  spelled = nothing;
  only = λ more other after w as_rest same spelled ends.
      elim (all w other spelled) [
        | inl none ↦ (none.0, sym (same ∙ ap (λ l. l ++ after) none.1))
        | inr starts ↦ absurd (elsewhere words tokens more stops as_rest (subst (λ (l : List Lexeme). StartsIn words l) (sym same) (starts_append words other after starts)))
      ];
}

-- a form that may be left out, where a word comes by which it goes on
pub stands : {A B : Type 0} {p : A → List Lexeme → Type 0} {q : B → List Lexeme → Type 0} {to : A → B} {goes_on : Word → Type 0} (tokens : List Lexeme)
    → ((a : A) (ts : List Lexeme) → p a ts → q (to a) ts) → ((b : B) (ts : List Lexeme) → q b ts → (ts ≡ []) ⊎ ((a : A) × p a ts × (b ≡ to a))) → StartsIn goes_on tokens → Makes p q to goes_on tokens
stands {goes_on} tokens into back starts = record {
  into = into;
  back = λ b other after as_tokens spelled stops.
      elim (back b other spelled) [
        | inl none ↦ absurd (starts_stops goes_on after (starts_as goes_on tokens after starts (subst (λ (l : List Lexeme). GoesOnAs tokens (l ++ after)) none as_tokens)) stops)
        | inr made ↦ made
      ];
}

-- one of several forms, where none of the words comes with which the others start
pub alternative : {A B : Type 0} {p : A → List Lexeme → Type 0} {q : B → List Lexeme → Type 0} {to : A → B} {goes_on : Word → Type 0} (others : Word → Type 0) (tokens : List Lexeme)
    → ((a : A) (ts : List Lexeme) → p a ts → q (to a) ts) → ((b : B) (ts : List Lexeme) → q b ts → StartsIn others ts ⊎ ((a : A) × p a ts × (b ≡ to a))) → Stops others tokens → Makes p q to goes_on tokens
alternative others tokens into back stops = record {
  into = into;
  back = λ b other after as_tokens spelled ends.
      elim (back b other spelled) [
        | inl starts ↦ absurd (elsewhere others tokens (other ++ after) stops as_tokens (starts_append others other after starts))
        | inr made ↦ made
      ];
}

-- a form whose values are made of those of another, wherever it stands
pub remade : {A B : Type 0} {p : A → List Lexeme → Type 0} {q : B → List Lexeme → Type 0} {to : A → B} {goes_on : Word → Type 0} {tokens : List Lexeme}
    → ((a : A) (ts : List Lexeme) → p a ts → q (to a) ts) → ((b : B) (ts : List Lexeme) → q b ts → (a : A) × p a ts × (b ≡ to a)) → Makes p q to goes_on tokens
remade into back = record { into = into; back = λ b other after as_tokens spelled stops. back b other spelled }

-- a form that ends by itself does so whatever stands behind it
pub closed_read : {A : Type 0} {form : A → List Lexeme → Type 0} {goes_on : Word → Type 0} {tokens rest : List Lexeme} {a : A} → IsRead form closed tokens a rest → IsRead form goes_on tokens a rest
closed_read read = record { part = read.part; split = read.split; spelled = read.spelled; only = λ more other after w as_rest same spelled stops. read.only more other after w as_rest same spelled (stops_closed after) }

pub closed_fails : {A : Type 0} {form : A → List Lexeme → Type 0} {goes_on : Word → Type 0} {tokens : List Lexeme} (bad : Option (List Lexeme)) → Fails form closed tokens bad → Fails form goes_on tokens bad
closed_fails None fails = record { why = tt }
closed_fails (Some bad) fails = let r = fails.why in record { why = record { part = r.part; split = r.split; value = r.value; later = r.later; begins = r.begins; none = λ more other after w as_bad same spelled stops. r.none more other after w as_bad same spelled (stops_closed after) } }

pub stops_other_than : (w : Word) (tokens : List Lexeme) → IsNext w tokens → Stops (other_than w) tokens
stops_other_than w tokens is_next = stops_next w (other_than w) tokens is_next (λ h. h refl)

-- the same value
pub read_at : {A : Type 0} {form : A → List Lexeme → Type 0} {goes_on : Word → Type 0} {tokens rest : List Lexeme} {a b : A} → a ≡ b → IsRead form goes_on tokens a rest → IsRead form goes_on tokens b rest
read_at {A} {form} {goes_on} {tokens} {rest} same read = subst (λ (x : A). IsRead form goes_on tokens x rest) same read
