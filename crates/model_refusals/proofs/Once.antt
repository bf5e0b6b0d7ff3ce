-- A text has one refusal at most.
use Rattle.std.proofs.Common.{◌≡◌, ℕ, ◌≤◌, ◌<◌, List, [], ◌∷◌, ◌++◌, length, refl, sym, ap, ◌∙◌, subst, append_assoc, append-nil, arith, Bool, true, false, ◌+◌, Some, None, ◌&&◌}
use Rattle.std.specs.Prelude.{encode_utf8, encode_utf8_all}
use Rattle.std.specs.Char.{IsScalar}
use Rattle.std.specs.Str.{chars, IsUtf8, all_scalars}
use Rattle.std.proofs.Math.Utf8.{scalar}
use Rattle.std.proofs.lemmas.Str.{encode_same, length-encode, len_utf8_bounds}
use Rattle.std.proofs.lemmas.List.{length-append, append_cancel_left}
use Rattle.model_tree.specs.Limits.{most_bytes}
use Rattle.fast_fault.specs.declared.place.Pos.{Pos}
use Rattle.fast_fault.specs.declared.code.Code.{Code}
use Rattle.fast_fault.specs.declared.code.Code.TheVariants as code
use Rattle.fast_fault.specs.declared.refusal.Refusal.{Refusal}
use Rattle.model_program.specs.Lexeme.{Lexeme}
use Rattle.model_program.specs.Cuts.{StopsAt, place_after}
use Rattle.model_program.specs.Texts.{IsBadUtf8At}
use Rattle.model_program.proofs.Unique.{same_tokens, same_stop, stops_or_whole}
use Rattle.model_grammar.specs.Nesting.{nested_at}
use Rattle.model_grammar.specs.Texts.{IsText}
use Rattle.model_grammar.specs.Wrong.{IsFirstWrong, IsWrongAt, place_of}
use Rattle.model_grammar.proofs.FirstWrong.{one_first_wrong, none_wrong}
use Rattle.model_refusals.specs.Refusals.{start, AreTokensOf, AreShallowTokens, IsRefusal}

-- Characters.

first_true : (a b : Bool) → (a && b) ≡ true → a ≡ true
first_true true b e = refl
first_true false b e = absurd (cc)

second_true : (a b : Bool) → (a && b) ≡ true → b ≡ true
second_true true b e = e
second_true false b e = absurd (cc)

-- no character begins the bytes
abbrev NoChar : List ℕ → Type 0
NoChar rest = (c : ℕ) (more : List ℕ) → IsScalar c → rest ≡ encode_utf8 c ++ more → ⊥

-- bytes are cut where no character begins at one place
same_cut : (cs ds rest more : List ℕ) → all_scalars cs ≡ true → all_scalars ds ≡ true → encode_utf8_all cs ++ rest ≡ encode_utf8_all ds ++ more → NoChar rest → NoChar more → cs ≡ ds
same_cut [] [] rest more are_cs are_ds same none no_more = refl
same_cut [] (d ∷ ds) rest more are_cs are_ds same none no_more = absurd (none d (encode_utf8_all ds ++ more) (first_true (scalar d) (all_scalars ds) are_ds) (same ∙ append_assoc (encode_utf8 d) (encode_utf8_all ds) more))
same_cut (c ∷ cs) [] rest more are_cs are_ds same none no_more = absurd (no_more c (encode_utf8_all cs ++ rest) (first_true (scalar c) (all_scalars cs) are_cs) (sym same ∙ append_assoc (encode_utf8 c) (encode_utf8_all cs) rest))
same_cut (c ∷ cs) (d ∷ ds) rest more are_cs are_ds same none no_more =
    let one = encode_same c d (encode_utf8_all cs ++ rest) (encode_utf8_all ds ++ more) (sym (append_assoc (encode_utf8 c) (encode_utf8_all cs) rest) ∙ same ∙ append_assoc (encode_utf8 d) (encode_utf8_all ds) more) in
    let others = same_cut cs ds rest more (second_true (scalar c) (all_scalars cs) are_cs) (second_true (scalar d) (all_scalars ds) are_ds) one.1 none no_more in
    λ i. one.0 i ∷ others i

same_front : (bytes : List ℕ) (p q : Pos) (a : IsBadUtf8At bytes p) (b : IsBadUtf8At bytes q) → a.front ≡ b.front
same_front bytes p q a b =
    let ea = a.encoded in let eb = b.encoded in
    let whole : encode_utf8_all ea.0 ++ a.rest ≡ encode_utf8_all eb.0 ++ b.rest = ap (λ l. l ++ a.rest) ea.1.1 ∙ sym a.split ∙ b.split ∙ sym (ap (λ l. l ++ b.rest) eb.1.1) in
    sym ea.1.1 ∙ ap encode_utf8_all (same_cut ea.0 eb.0 a.rest b.rest ea.1.0 eb.1.0 whole a.none b.none) ∙ eb.1.1

same_bad : (bytes : List ℕ) (p q : Pos) → IsBadUtf8At bytes p → IsBadUtf8At bytes q → p ≡ q
same_bad bytes p q a b = a.is ∙ ap (λ l. place_after (chars l)) (same_front bytes p q a b) ∙ sym b.is

no_char_at_end : NoChar []
no_char_at_end c more is_scalar e =
    let f : 0 ≡ length (encode_utf8 c) + length more = ap length e ∙ length-append (encode_utf8 c) more in
    let g = length-encode c in
    let h = (len_utf8_bounds c).0 in
    omega (arith, f, g, h)

bad_or_whole : (bytes : List ℕ) (p : Pos) → IsBadUtf8At bytes p → IsUtf8 bytes → ⊥
bad_or_whole bytes p bad whole =
    let ea = bad.encoded in
    let e : encode_utf8_all ea.0 ++ bad.rest ≡ encode_utf8_all whole.0 ++ [] = ap (λ l. l ++ bad.rest) ea.1.1 ∙ sym bad.split ∙ sym whole.1.1 ∙ sym (append-nil (encode_utf8_all whole.0)) in
    let cut = same_cut ea.0 whole.0 bad.rest [] ea.1.0 whole.1.0 e bad.none no_char_at_end in
    let front : bad.front ≡ bytes = sym ea.1.1 ∙ ap encode_utf8_all cut ∙ whole.1.1 in
    bad.goes_on (append_cancel_left bad.front bad.rest [] (sym bad.split ∙ sym front ∙ sym (append-nil bad.front)))

-- Tokens.

one_list : (bytes : List ℕ) (a b : List Lexeme) → AreTokensOf bytes a → AreTokensOf bytes b → a ≡ b
one_list bytes a b are_a are_b = same_tokens (chars bytes) a b are_a.are are_b.are

-- a parenthesis is nested too deep, or none is
deep_or_shallow : (bytes : List ℕ) (a b : List Lexeme) (p : Pos) → AreTokensOf bytes a → AreTokensOf bytes b → nested_at a ≡ Some p → nested_at b ≡ None → ⊥
deep_or_shallow bytes a b p are_a are_b deep shallow = let e : Some p ≡ None = sym deep ∙ ap nested_at (one_list bytes a b are_a are_b) ∙ shallow in cc

same_deep : (bytes : List ℕ) (a b : List Lexeme) (p q : Pos) → AreTokensOf bytes a → AreTokensOf bytes b → nested_at a ≡ Some p → nested_at b ≡ Some q → p ≡ q
same_deep bytes a b p q are_a are_b at_p at_q = let e : Some p ≡ Some q = sym at_p ∙ ap nested_at (one_list bytes a b are_a are_b) ∙ at_q in cc

same_wrong : {A : Type 0} (form : A → List Lexeme → Type 0) (bytes : List ℕ) (a b : List Lexeme) (p q end : Pos) → AreTokensOf bytes a → AreTokensOf bytes b → IsWrongAt form a end p → IsWrongAt form b end q → p ≡ q
same_wrong {A} form bytes a b p q end are_a are_b at_p at_q =
    let e = one_list bytes a b are_a are_b in
    let k = one_first_wrong A form b at_p.k at_q.k (subst (λ (l : List Lexeme). IsFirstWrong form l at_p.k) e at_p.first) at_q.first in
    at_p.is ∙ (λ i. place_of (k i) (e i) end) ∙ sym at_q.is

-- Refusals.

abbrev IsOnly : Code → Pos → Code → Pos → Type 0
IsOnly c p d q = (d ≡ c) × (q ≡ p)

only_long : {A : Type 0} (form : A → List Lexeme → Type 0) (bytes : List ℕ) (d : Code) (q : Pos) → most_bytes < length bytes → IsRefusal form bytes d q → IsOnly code.TooLong start d q
only_long form bytes code.TooLong q long other = (refl, other.1)
only_long form bytes code.NotUtf8 q long other = let s = other.0 in absurd (omega arith)
only_long form bytes code.Token q long other = let s = other.0 in absurd (omega arith)
only_long form bytes code.Nested q long other = let s = other.1.short in absurd (omega arith)
only_long form bytes code.Syntax q long other = let s = other.1.tokens_of.short in absurd (omega arith)
only_long form bytes d q long other = absurd other

only_bad : {A : Type 0} (form : A → List Lexeme → Type 0) (bytes : List ℕ) (p : Pos) (d : Code) (q : Pos) → length bytes ≤ most_bytes → IsBadUtf8At bytes p → IsRefusal form bytes d q → IsOnly code.NotUtf8 p d q
only_bad form bytes p code.TooLong q short bad other = let l = other.0 in absurd (omega arith)
only_bad form bytes p code.NotUtf8 q short bad other = (refl, same_bad bytes q p other.1 bad)
only_bad form bytes p code.Token q short bad other = absurd (bad_or_whole bytes p bad other.1)
only_bad form bytes p code.Nested q short bad other = absurd (bad_or_whole bytes p bad other.1.encoded)
only_bad form bytes p code.Syntax q short bad other = absurd (bad_or_whole bytes p bad other.1.tokens_of.encoded)
only_bad form bytes p d q short bad other = absurd other

only_stop : {A : Type 0} (form : A → List Lexeme → Type 0) (bytes : List ℕ) (p : Pos) (d : Code) (q : Pos) → length bytes ≤ most_bytes → IsUtf8 bytes → StopsAt (chars bytes) p → IsRefusal form bytes d q → IsOnly code.Token p d q
only_stop form bytes p code.TooLong q short whole stops other = let l = other.0 in absurd (omega arith)
only_stop form bytes p code.NotUtf8 q short whole stops other = absurd (bad_or_whole bytes q other.1 whole)
only_stop form bytes p code.Token q short whole stops other = (refl, same_stop (chars bytes) q p other.2 stops)
only_stop form bytes p code.Nested q short whole stops other = absurd (stops_or_whole (chars bytes) p other.0 stops other.1.are)
only_stop form bytes p code.Syntax q short whole stops other = absurd (stops_or_whole (chars bytes) p other.0 stops other.1.tokens_of.are)
only_stop form bytes p d q short whole stops other = absurd other

only_deep : {A : Type 0} (form : A → List Lexeme → Type 0) (bytes : List ℕ) (p : Pos) (d : Code) (q : Pos) (tokens : List Lexeme) → AreTokensOf bytes tokens → nested_at tokens ≡ Some p → IsRefusal form bytes d q → IsOnly code.Nested p d q
only_deep form bytes p code.TooLong q tokens are deep other = let l = other.0 in let s = are.short in absurd (omega arith)
only_deep form bytes p code.NotUtf8 q tokens are deep other = absurd (bad_or_whole bytes q other.1 are.encoded)
only_deep form bytes p code.Token q tokens are deep other = absurd (stops_or_whole (chars bytes) q tokens other.2 are.are)
only_deep form bytes p code.Nested q tokens are deep other = (refl, same_deep bytes other.0 tokens q p other.1 are other.2 deep)
only_deep form bytes p code.Syntax q tokens are deep other = absurd (deep_or_shallow bytes tokens other.0 p are other.1.tokens_of deep other.1.shallow)
only_deep form bytes p d q tokens are deep other = absurd other

only_wrong : {A : Type 0} (form : A → List Lexeme → Type 0) (bytes : List ℕ) (p : Pos) (d : Code) (q : Pos) (tokens : List Lexeme) → AreShallowTokens bytes tokens → IsWrongAt form tokens (place_after (chars bytes)) p → IsRefusal form bytes d q → IsOnly code.Syntax p d q
only_wrong form bytes p code.TooLong q tokens are wrong other = let l = other.0 in let s = are.tokens_of.short in absurd (omega arith)
only_wrong form bytes p code.NotUtf8 q tokens are wrong other = absurd (bad_or_whole bytes q other.1 are.tokens_of.encoded)
only_wrong form bytes p code.Token q tokens are wrong other = absurd (stops_or_whole (chars bytes) q tokens other.2 are.tokens_of.are)
only_wrong form bytes p code.Nested q tokens are wrong other = absurd (deep_or_shallow bytes other.0 tokens q other.1 are.tokens_of other.2 are.shallow)
only_wrong form bytes p code.Syntax q tokens are wrong other = (refl, same_wrong form bytes other.0 tokens q p (place_after (chars bytes)) other.1.tokens_of are.tokens_of other.2 wrong)
only_wrong form bytes p d q tokens are wrong other = absurd other

only_this : {A : Type 0} (form : A → List Lexeme → Type 0) (bytes : List ℕ) (c : Code) (p : Pos) (d : Code) (q : Pos) → IsRefusal form bytes c p → IsRefusal form bytes d q → IsOnly c p d q
only_this form bytes code.TooLong p d q this other = let only = only_long form bytes d q this.0 other in (only.0, only.1 ∙ sym this.1)
only_this form bytes code.NotUtf8 p d q this other = only_bad form bytes p d q this.0 this.1 other
only_this form bytes code.Token p d q this other = only_stop form bytes p d q this.0 this.1 this.2 other
only_this form bytes code.Nested p d q this other = only_deep form bytes p d q this.0 this.1 this.2 other
only_this form bytes code.Syntax p d q this other = only_wrong form bytes p d q this.0 this.1 this.2 other
only_this form bytes c p d q this other = absurd this

pub one_refusal : {A : Type 0} (form : A → List Lexeme → Type 0) (bytes : List ℕ) (a b : Refusal) → IsRefusal form bytes a.code a.place → IsRefusal form bytes b.code b.place → a ≡ b
one_refusal form bytes a b is_a is_b = let only = only_this form bytes b.code b.place a.code a.place is_b is_a in λ i. record { code = only.0 i; place = only.1 i }

-- a text of the form isn't refused
pub none_refused : {A : Type 0} (form : A → List Lexeme → Type 0) (bytes : List ℕ) (value : A) (c : Code) (p : Pos) → IsText form bytes value → IsRefusal form bytes c p → ⊥
none_refused form bytes value code.TooLong p text refused = let l = refused.0 in let s = text.short in omega arith
none_refused form bytes value code.NotUtf8 p text refused = bad_or_whole bytes p refused.1 text.encoded
none_refused form bytes value code.Token p text refused = stops_or_whole (chars bytes) p text.tokens refused.2 text.are
none_refused form bytes value code.Nested p text refused = deep_or_shallow bytes refused.0 text.tokens p refused.1 (record { short = text.short; encoded = text.encoded; are = text.are }) refused.2 text.shallow
none_refused {A} form bytes value code.Syntax p text refused = none_wrong A form refused.0 refused.2.k value refused.2.first (subst (λ (l : List Lexeme). form value l) (same_tokens (chars bytes) text.tokens refused.0 text.are refused.1.tokens_of.are) text.spelled)
none_refused form bytes value c p text refused = absurd refused
