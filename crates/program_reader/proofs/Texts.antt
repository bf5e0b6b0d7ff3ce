-- What reading says of all of the tokens, and of the bytes.
use Rattle.std.proofs.Common.{◌≡◌, ℕ, ◌+◌, ◌-◌, ◌≤◌, ◌<◌, List, [], ◌∷◌, ◌++◌, length, take, drop, refl, sym, ap, ◌∙◌, subst, append_assoc, append-nil, arith, Some, ◌⊎◌, inl, inr}
use Rattle.std.proofs.lemmas.List.{length-append, length-map, take-append-drop}
use Rattle.std.proofs.Math.Seq.{take-append_seam, take-append-add}
use Rattle.model_program.specs.Lexeme.{Lexeme}
use Rattle.read_forms.specs.Reads.{GoesOnAs, IsRead, IsRefused, Fails, anything}
use Rattle.model_grammar.specs.Wrong.{Begins, IsFirstWrong}
use Rattle.fast_lex.specs.declared.Token.{Token}
use Rattle.label_reader.specs.declared.stop.Stop.{Stop}
use Rattle.label_reader.specs.declared.stop.Stop.TheVariants.{Wrong}
use Rattle.label_reader.specs.Results.{lexemes, bad_of}

-- a program that was read is the whole of the tokens, and the only one
pub whole_read : {A : Type 0} {form : A → List Lexeme → Type 0} (tokens : List Lexeme) (items : A) → IsRead form anything tokens items [] → form items tokens
whole_read {A} {form} tokens items read = subst (λ (l : List Lexeme). form items l) (sym (read.split ∙ append-nil read.part)) read.spelled

pub whole_only : {A : Type 0} {form : A → List Lexeme → Type 0} (tokens : List Lexeme) (items other : A) → IsRead form anything tokens items [] → form other tokens → other ≡ items
whole_only {A} {form} tokens items other read spelled = (read.only [] tokens [] other refl (sym read.split ∙ sym (append-nil tokens)) spelled tt).0

-- with the next token no program goes on
no_start : {A : Type 0} {form : A → List Lexeme → Type 0} (tokens bad : List Lexeme) (refused : IsRefused form anything tokens bad) → length refused.part < length tokens → Begins form (take (length refused.part + 1) tokens) → ⊥
no_start {A} {form} tokens [] refused below starts = let e : length tokens ≡ length refused.part = ap length (refused.split ∙ append-nil refused.part) in omega arith
no_start {A} {form} tokens (b ∷ bs) refused below starts =
    let front : take (length refused.part + 1) tokens ≡ refused.part ++ b ∷ [] = ap (λ l. take (length refused.part + 1) l) refused.split ∙ take-append-add refused.part (b ∷ bs) 1 in
    let whole : (refused.part ++ b ∷ []) ++ starts.more ≡ take (length refused.part + 1) tokens ++ starts.more = ap (λ l. l ++ starts.more) (sym front) in
    refused.none (b ∷ starts.more) (take (length refused.part + 1) tokens ++ starts.more) [] starts.value (starts.more, refl)
    (sym (append_assoc refused.part (b ∷ []) starts.more) ∙ whole ∙ sym (append-nil (take (length refused.part + 1) tokens ++ starts.more))) starts.spelled tt

no_whole : {A : Type 0} {form : A → List Lexeme → Type 0} (tokens bad : List Lexeme) (refused : IsRefused form anything tokens bad) → (program : A) → form program tokens → ⊥
no_whole {A} {form} tokens bad refused program spelled = refused.none bad tokens [] program (as_itself bad) (sym refused.split ∙ sym (append-nil tokens)) spelled tt
  where
    as_itself : (ts : List Lexeme) → GoesOnAs ts ts
    as_itself [] = refl
    as_itself (t ∷ ts) = (ts, refl)

wrong_at : {A : Type 0} {form : A → List Lexeme → Type 0} (tokens bad : List Lexeme) (refused : IsRefused form anything tokens bad) → IsFirstWrong form tokens (length refused.part)
wrong_at {A} {form} tokens bad refused = record {
  in_range = omega (arith, simp length-append at (ap length refused.split));
  before = record { value = refused.value; more = refused.later; spelled = subst (λ (l : List Lexeme). form refused.value (l ++ refused.later)) (sym front) refused.begins };
  with_it = no_start tokens bad refused;
  at_end = λ _. no_whole tokens bad refused;
}
  where
    front : take (length refused.part) tokens ≡ refused.part
    front = ap (λ l. take (length refused.part) l) refused.split ∙ take-append_seam refused.part bad

-- what was read of all of the tokens
pub read_all : {A : Type 0} {form : A → List Lexeme → Type 0} {value : A} {tokens all rest : List Lexeme} → tokens ≡ all → rest ≡ [] → IsRead form anything tokens value rest → IsRead form anything all value []
read_all {form = form} {value} {tokens} {all} {rest} is_all ended read = subst (λ (l : List Lexeme). IsRead form anything l value []) is_all (subst (λ (l : List Lexeme). IsRead form anything tokens value l) ended read)

-- and what was refused of them
pub refused_at : {A : Type 0} {form : A → List Lexeme → Type 0} {tokens all : List Lexeme} (rest : List Lexeme) (e : Stop) → tokens ≡ all → e ≡ Wrong → Fails form anything tokens (bad_of e rest) → IsRefused form anything all rest
refused_at {form = form} {tokens} {all} rest e is_all is_wrong fails = (subst (λ (l : List Lexeme). Fails form anything l (Some rest)) is_all (subst (λ (s : Stop). Fails form anything tokens (bad_of s rest)) is_wrong fails)).why

-- what a refusal says of the place, from how many tokens are left there
pub first_wrong : {A : Type 0} {form : A → List Lexeme → Type 0} (tokens : List Token) (bad : List Lexeme) (count : ℕ) → count ≡ length bad → IsRefused form anything (lexemes tokens) bad → IsFirstWrong form (lexemes tokens) (length tokens - count)
first_wrong {A} {form} tokens bad count is_count refused = subst (λ (k : ℕ). IsFirstWrong form (lexemes tokens) k) (omega (arith, is_count, simp (length-append, length-map) at (ap length refused.split))) (wrong_at (lexemes tokens) bad refused)

pub bad_in_range : {A : Type 0} {form : A → List Lexeme → Type 0} (tokens : List Token) (bad : List Lexeme) → IsRefused form anything (lexemes tokens) bad → length bad ≤ length tokens
bad_in_range {A} {form} tokens bad refused = omega (arith, simp (length-append, length-map) at (ap length refused.split))

-- tokens of which one is the first wrong one spell no program
pub wrong_spells_none : {A : Type 0} {form : A → List Lexeme → Type 0} (tokens : List Lexeme) (k : ℕ) → IsFirstWrong form tokens k → (program : A) → form program tokens → ⊥
wrong_spells_none {A} {form} tokens k wrong program spelled = elim (below_or_at k (length tokens) wrong.in_range) [
  | inl below ↦ wrong.with_it below (record { value = program; more = drop (k + 1) tokens; spelled = subst (λ (l : List Lexeme). form program l) (sym (take-append-drop (k + 1) tokens)) spelled })
  | inr at_end ↦ wrong.at_end at_end program spelled
]
  where
    below_or_at : (a b : ℕ) → a ≤ b → (a < b) ⊎ (a ≡ b)
    below_or_at a b le = grind arith
