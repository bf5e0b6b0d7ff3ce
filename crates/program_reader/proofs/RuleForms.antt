-- Of what rules are made.
use Rattle.std.proofs.Common.{◌≡◌, List, [], ◌∷◌, ◌++◌, refl, sym, ap, ◌∙◌, subst, append_assoc, Option, Some, None, ◌⊎◌, inl, inr, arith}
use Rattle.model_program.specs.declared.Word.{Word}
use Rattle.model_program.specs.declared.Word.TheVariants.{Where, Given, To, Id, RoundOpen, RoundClose, CurlyOpen, CurlyClose, Bar}
use Rattle.model_program.specs.Lexeme.{Lexeme}
use Rattle.model_program.specs.Syntax.{Name, Demand}
use Rattle.model_program.specs.Joined.{IsNext, IsOther, ◌⊗◌}
use Rattle.read_forms.specs.Reads.{IsRead, Fails, StartsIn, closed}
use Rattle.model_program.specs.Grammar.{IsSign, sign, IsName, Many, IsDemand, AreVars, IsGiven}
use Rattle.read_forms.specs.Parts.{Ends, HasSample, AllStartIn}
use Rattle.read_forms.proofs.Forms.{Makes, as_read, as_fails, then_read, then_fails, first_fails, read_at, sample_pair, sample_as, remade, stands, left_out, ends_left_out, ends_starting, ends_closed, starts_joined, starts_next, stops_other}
use Rattle.read_forms.proofs.Words.{sample_sign, sign_starts}
use Rattle.read_forms.proofs.Lists.{IsPartWay, to_left, to_right, many_make, many_end, sample_many}
use Rattle.model_grammar.specs.declared.Level.TheVariants.{E}
use Rattle.model_grammar.specs.Syntax.{Expr, Rule, Out}
use Rattle.model_grammar.specs.Expressions.{IsE}
use Rattle.model_grammar.specs.Terms.{IsOut}
use Rattle.model_grammar.specs.Grammar.{IsGuard, IsRule, IsOutRule, InBraces}
use Rattle.label_reader.specs.declared.lists.Between.TheVariants as gap
use Rattle.label_reader.specs.Lists.{IsItem}
use Rattle.label_reader.proofs.Listed.{named_item, bar_tail, sample_any_to, sample_some_to}
use Rattle.label_reader.specs.Levels.{strength, GoesOn}
use Rattle.label_reader.proofs.Names.{sample_name, name_starts}
use Rattle.program_reader.specs.Goings.{guard_words, given_words, rule_words}
use Rattle.program_reader.specs.Names.{IsNameBehind, IsNameTo}
use Rattle.program_reader.proofs.NameForms.{sample_behind, sample_name_to}
use Rattle.program_reader.proofs.OutForms.{sample_out}

-- no sign between operands
no_sign : (v w : Word) → strength v ≡ 0 → w ≡ v → GoesOn E w → ⊥
no_sign v w none is goes = let e : strength w ≡ 0 = ap strength is ∙ none in omega arith

abbrev pub demand_of : Name × Name → Demand
demand_of v = record { language = v.0; child = v.1 }

demand_into : (v : Name × Name) (ts : List Lexeme) → (IsNameBehind RoundOpen ⊗ IsNameTo RoundClose) v ts → IsDemand (demand_of v) ts
demand_into v ts spelled = to_right (sign RoundOpen) (IsName v.0) (IsNameTo RoundClose v.1) ts spelled

pub demand_makes : (goes_on : Word → Type 0) (tokens : List Lexeme) → Makes (IsNameBehind RoundOpen ⊗ IsNameTo RoundClose) IsDemand demand_of goes_on tokens
demand_makes goes_on tokens = remade demand_into (λ d ts spelled. ((d.language, d.child), to_left (sign RoundOpen) (IsName d.language) (IsNameTo RoundClose d.child) ts spelled, refl))

pub sample_demand : HasSample IsDemand
sample_demand = sample_as demand_of demand_into (sample_pair (sample_behind RoundOpen) (sample_name_to RoundClose))

pub demand_starts : AllStartIn (λ w. w ≡ RoundOpen) IsDemand
demand_starts = record { starts = λ d ts spelled. starts_joined (λ w. w ≡ RoundOpen) _ _ ts ((sign_starts RoundOpen).starts tt) spelled }

pub var_item : IsItem gap.Comma RoundClose IsName closed
var_item = named_item gap.Comma RoundClose sample_name name_starts (λ h. cc) (λ h. cc, λ h. cc) (ends_closed _ closed)

pub sample_vars : HasSample AreVars
sample_vars = sample_as (λ (v : Unit {0} × List Name). v.1) (λ v ts spelled. spelled) (sample_pair (sample_sign RoundOpen) (sample_any_to gap.Comma IsName RoundClose))

pub guard_makes : (tokens : List Lexeme) → IsNext Where tokens → Makes (IsSign Where ⊗ IsE) IsGuard (λ v. Some v.1) guard_words tokens
guard_makes tokens is_next = stands tokens (λ v ts spelled. spelled) (λ g ts spelled. back g ts spelled) (starts_next Where guard_words tokens is_next (inl refl))
  where
    back : (g : Option Expr) (ts : List Lexeme) → IsGuard g ts → (ts ≡ []) ⊎ ((v : Unit {0} × Expr) × (IsSign Where ⊗ IsE) v ts × (g ≡ Some v.1))
    back None ts spelled = inl spelled
    back (Some e) ts spelled = inr ((tt, e), spelled, refl)

pub guard_none : (tokens : List Lexeme) → IsOther Where tokens → IsRead IsGuard guard_words tokens None tokens
guard_none tokens is_other = left_out (λ w. w ≡ Where) tokens None refl (λ g ts spelled. back g ts spelled) (stops_other Where tokens is_other)
  where
    back : (g : Option Expr) (ts : List Lexeme) → IsGuard g ts → ((g ≡ None) × (ts ≡ [])) ⊎ StartsIn (λ w. w ≡ Where) ts
    back None ts spelled = inl (refl, spelled)
    back (Some e) ts spelled = inr (starts_joined (λ w. w ≡ Where) _ _ ts ((sign_starts Where).starts tt) spelled)

pub in_guard : (w : Word) → GoesOn E w → guard_words w
in_guard w goes = inr goes

pub sample_guard : HasSample IsGuard
sample_guard = record { value = None; tokens = []; spelled = refl }

pub given_starts : (g : List Demand) (ts : List Lexeme) → IsGiven g ts → ((g ≡ []) × (ts ≡ [])) ⊎ StartsIn (λ w. w ≡ Given) ts
given_starts [] ts spelled = inl (refl, spelled)
given_starts (d ∷ ds) ts spelled = inr (starts_joined (λ w. w ≡ Given) _ _ ts ((sign_starts Given).starts tt) spelled)

pub given_makes : (tokens : List Lexeme) → IsNext Given tokens → Makes (IsSign Given ⊗ (IsDemand ⊗ Many IsDemand)) IsGiven (λ v. v.1.0 ∷ v.1.1) given_words tokens
given_makes tokens is_next = stands tokens (λ v ts spelled. spelled) (λ g ts spelled. back g ts spelled) (starts_next Given given_words tokens is_next (inl (inl refl)))
  where
    back : (g : List Demand) (ts : List Lexeme) → IsGiven g ts → (ts ≡ []) ⊎ ((v : Unit {0} × (Demand × List Demand)) × (IsSign Given ⊗ (IsDemand ⊗ Many IsDemand)) v ts × (g ≡ v.1.0 ∷ v.1.1))
    back [] ts spelled = inl spelled
    back (d ∷ ds) ts spelled = inr ((tt, (d, ds)), spelled, refl)

pub given_none : (tokens : List Lexeme) → IsOther Given tokens → IsRead IsGiven given_words tokens [] tokens
given_none tokens is_other = left_out (λ w. w ≡ Given) tokens [] refl given_starts (stops_other Given tokens is_other)

demand_goes_on : given_words RoundOpen
demand_goes_on = inl (inr refl)

-- one demand more must be read behind those of `all`
abbrev pub IsGivenSoFar : List Demand → List Lexeme → List Lexeme → Type 0
IsGivenSoFar all tokens rest = IsPartWay IsGiven (IsDemand ⊗ Many IsDemand) given_words (λ v. all ++ (v.0 ∷ v.1)) tokens rest

pub given_begins : {tokens rest : List Lexeme} (all : List Demand) → IsNext Given tokens → IsRead (IsSign Given) closed tokens tt rest → all ≡ [] → IsGivenSoFar all tokens rest
given_begins {tokens} {rest} all is_next first none = subst (λ (l : List Demand). IsGivenSoFar l tokens rest) (sym none) (record {
  read = λ b end more. as_read (given_makes tokens is_next) (then_read (ends_closed (IsDemand ⊗ Many IsDemand) given_words) first more);
  fails = λ bad more. as_fails bad (given_makes tokens is_next) (then_fails bad (ends_closed (IsDemand ⊗ Many IsDemand) given_words) first more);
})

pub given_more : {tokens rest after : List Lexeme} {x : Demand} (all new : List Demand) → IsGivenSoFar all tokens rest → IsRead IsDemand closed rest x after → IsNext RoundOpen after → new ≡ all ++ x ∷ [] → IsGivenSoFar new tokens after
given_more {tokens} {after = after} {x} all new so_far item is_next is_new = record {
  read = λ b end more. subst (λ (l : List Demand). IsRead IsGiven given_words tokens l end) (sym (append_assoc all (x ∷ []) (b.0 ∷ b.1)) ∙ ap (λ l. l ++ (b.0 ∷ b.1)) (sym is_new)) (so_far.read (x, b.0 ∷ b.1) end (then_read (ends_closed (Many IsDemand) given_words) item (as_read another more)));
  fails = λ bad more. so_far.fails bad (then_fails bad (ends_closed (Many IsDemand) given_words) item (as_fails bad another more));
}
  where
    another : Makes (IsDemand ⊗ Many IsDemand) (Many IsDemand) (λ v. v.0 ∷ v.1) given_words after
    another = many_make IsDemand after (starts_next RoundOpen given_words after is_next demand_goes_on)

pub given_fails : {tokens rest : List Lexeme} (all : List Demand) (bad : Option (List Lexeme)) → IsGivenSoFar all tokens rest → Fails IsDemand closed rest bad → Fails IsGiven given_words tokens bad
given_fails all bad so_far fails = so_far.fails bad (first_fails bad (ends_closed (Many IsDemand) given_words) (sample_many IsDemand) fails)

pub given_ends : {tokens rest after : List Lexeme} {x : Demand} (all new : List Demand) → IsGivenSoFar all tokens rest → IsRead IsDemand closed rest x after → IsOther RoundOpen after → new ≡ all ++ x ∷ [] → IsRead IsGiven given_words tokens new after
given_ends {after = after} {x} all new so_far item is_other is_new = read_at (sym is_new) (so_far.read (x, []) after (then_read (ends_closed (Many IsDemand) given_words) item (many_end IsDemand after demand_starts (stops_other RoundOpen after is_other))))

pub sample_given : HasSample IsGiven
sample_given = record { value = []; tokens = []; spelled = refl }

pub ends_guard : Ends guard_words IsGiven given_words
ends_guard = ends_left_out (λ w. w ≡ Given) IsGiven given_words (λ w is goes. apart w is goes) (λ w goes. inr goes)
    (λ g ts spelled. elim (given_starts g ts spelled) [ inl none ↦ inl none.1 | inr starts ↦ inr starts ])
  where
    apart : (w : Word) → w ≡ Given → guard_words w → ⊥
    apart w is (inl where_is) = let e : Given ≡ Where = sym is ∙ where_is in cc
    apart w is (inr goes) = no_sign Given w refl is goes

abbrev pub rule_parts : Name × (List Name × (Option Expr × List Demand)) → List Lexeme → Type 0
rule_parts = IsName ⊗ (AreVars ⊗ (IsGuard ⊗ IsGiven))

pub rule_makes : (goes_on : Word → Type 0) (tokens : List Lexeme) → Makes rule_parts IsRule (λ v. record { ctor = v.0; vars = v.1.0; guard = v.1.1.0; given = v.1.1.1 }) goes_on tokens
rule_makes goes_on tokens = remade (λ v ts spelled. spelled) (λ r ts spelled. ((r.ctor, (r.vars, (r.guard, r.given))), spelled, refl))

pub sample_rule : HasSample IsRule
sample_rule = sample_as (λ (v : Name × (List Name × (Option Expr × List Demand))). record { ctor = v.0; vars = v.1.0; guard = v.1.1.0; given = v.1.1.1 }) (λ v ts spelled. spelled) (sample_pair sample_name (sample_pair sample_vars (sample_pair sample_guard sample_given)))

pub rule_starts : AllStartIn (λ w. w ≡ Id) IsRule
rule_starts = record { starts = λ r ts spelled. starts_joined (λ w. w ≡ Id) _ _ ts (name_starts.starts r.ctor) spelled }

abbrev pub out_rule_parts : Rule × (Unit {0} × Out) → List Lexeme → Type 0
out_rule_parts = IsRule ⊗ (IsSign To ⊗ IsOut)

pub out_rule_makes : (goes_on : Word → Type 0) (tokens : List Lexeme) → Makes out_rule_parts IsOutRule (λ v. record { rule = v.0; out = v.1.1 }) goes_on tokens
out_rule_makes goes_on tokens = remade (λ v ts spelled. spelled) (λ r ts spelled. ((r.rule, (tt, r.out)), spelled, refl))

pub sample_out_rule : HasSample IsOutRule
sample_out_rule = sample_as (λ (v : Rule × (Unit {0} × Out)). record { rule = v.0; out = v.1.1 }) (λ v ts spelled. spelled) (sample_pair sample_rule (sample_pair (sample_sign To) sample_out))

pub out_rule_starts : AllStartIn (λ w. w ≡ Id) IsOutRule
out_rule_starts = record { starts = λ r ts spelled. starts_joined (λ w. w ≡ Id) _ _ ts (rule_starts.starts r.rule) spelled }

-- a word that goes on no rule
no_rule_word : (v w : Word) → (v ≡ Where → ⊥) → (v ≡ Given → ⊥) → (v ≡ RoundOpen → ⊥) → strength v ≡ 0 → w ≡ v → rule_words w → ⊥
no_rule_word v w a b d none is (inl (inl x)) = b (sym is ∙ x)
no_rule_word v w a b d none is (inl (inr x)) = d (sym is ∙ x)
no_rule_word v w a b d none is (inr (inl x)) = a (sym is ∙ x)
no_rule_word v w a b d none is (inr (inr x)) = no_sign v w none is x

pub ends_rule : Ends rule_words (IsSign To ⊗ IsOut) closed
ends_rule = ends_starting (IsSign To ⊗ IsOut) closed (λ w is goes. no_rule_word To w (λ e. cc) (λ e. cc) (λ e. cc) refl is goes)
    (record { starts = λ v ts spelled. starts_joined (λ w. w ≡ To) _ _ ts ((sign_starts To).starts tt) spelled })

-- Rules in braces.

pub rule_item : IsItem gap.Bar CurlyClose IsRule rule_words
rule_item = named_item gap.Bar CurlyClose sample_rule rule_starts (λ h. cc) (λ h. cc, λ h. cc) (ends_starting _ closed (λ w is goes. apart w is goes) (bar_tail IsRule CurlyClose))
  where
    apart : (w : Word) → (w ≡ Bar) ⊎ (w ≡ CurlyClose) → rule_words w → ⊥
    apart w (inl is) goes = no_rule_word Bar w (λ e. cc) (λ e. cc) (λ e. cc) refl is goes
    apart w (inr is) goes = no_rule_word CurlyClose w (λ e. cc) (λ e. cc) (λ e. cc) refl is goes

pub out_rule_item : IsItem gap.Bar CurlyClose IsOutRule closed
out_rule_item = named_item gap.Bar CurlyClose sample_out_rule out_rule_starts (λ h. cc) (λ h. cc, λ h. cc) (ends_closed _ closed)

pub sample_braces : {A : Type 0} (form : A → List Lexeme → Type 0) → HasSample form → HasSample (InBraces form)
sample_braces {A} form sample = sample_as (λ (v : Unit {0} × List A). v.1) (λ v ts spelled. spelled) (sample_pair (sample_sign CurlyOpen) (sample_some_to gap.Bar form CurlyClose sample))
