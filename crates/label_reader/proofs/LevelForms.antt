-- The levels of label expressions: by which words they begin and go on, and of what they are made.
use Rattle.std.proofs.Common.{◌≡◌, ◌+◌, ◌*◌, ◌-◌, ◌<◌, List, [], ◌∷◌, ◌++◌, refl, sym, ap, ◌∙◌, subst, append_assoc, append-nil, arith, Option, Some, None, ◌⊎◌, inl, inr}
use Rattle.model_program.specs.declared.Word.{Word}
use Rattle.model_program.specs.declared.Word.TheVariants.{And, Or, Not, Id, Equal, NotEqual, AtMost, AtLeast, Less, Greater, Plus, Minus, Star, Percent}
use Rattle.model_program.specs.Lexeme.{Lexeme}
use Rattle.model_program.specs.Joined.{◌⌢◌, IsNext, IsOther, Nothing, ◌⊗◌}
use Rattle.read_forms.specs.Reads.{Stops, IsRead, Fails, StartsIn}
use Rattle.model_program.specs.Grammar.{IsWord}
use Rattle.read_forms.specs.Parts.{Ends, HasSample, AllStartIn}
use Rattle.read_forms.proofs.Forms.{Makes, as_read, as_fails, then_read, then_fails, first_fails, ends_closed, starts_append, starts_wider, stops_of, stops_fewer, stops_next, stops_other, alternative, remade, left_out, stands}
use Rattle.read_forms.proofs.Words.{sample_token}
use Rattle.read_forms.proofs.Lists.{IsPartWay}
use Rattle.model_grammar.specs.declared.Chain.{Chain}
use Rattle.model_grammar.specs.declared.Chain.TheVariants.{Disjunction, Conjunction, Product}
use Rattle.model_grammar.specs.declared.Chain.TheVariants as kinds
use Rattle.model_grammar.specs.declared.Rel.{Rel}
use Rattle.model_grammar.specs.declared.Rel.TheVariants as rels
use Rattle.model_grammar.specs.declared.Level.{Level}
use Rattle.model_grammar.specs.declared.Level.TheVariants.{E, Conj, Neg, Cmp, Sum, Prod, Unary, Prim}
use Rattle.model_grammar.specs.Operators.{IsSignOf, rel_word}
use Rattle.model_grammar.specs.Syntax.{Expr, field, negation, compare}
use Rattle.model_grammar.specs.Expressions.{IsExpr, disjunction, conjunction, negated, not_negated, compared, not_compared, sum, product, negative_number, minus_of, no_minus, field_name, constant_number, constant_text, constant_true, constant_false, brackets, many_before, remainder_before, compared_before, AreMore, no_more, one_more, operand, chain_of}
use Rattle.model_grammar.specs.Printed.{rank, chain_level}
use Rattle.model_grammar.proofs.Levels.{chained, primary}
use Rattle.label_reader.specs.Levels.{strength, GoesOn, BeginsAt, NoSign, NoRel}

-- the operands of a chain bind tighter than it
pub tighter : (k : Chain) → 2 * (7 - rank (operand k)) + 2 < 2 * (7 - rank (chain_level k)) + 1
tighter Disjunction = omega arith
tighter Conjunction = omega arith
tighter kinds.Sum = omega arith
tighter Product = omega arith

-- Words.

begins_looser : (k : Chain) (w : Word) → BeginsAt (operand k) w → BeginsAt (chain_level k) w
begins_looser Disjunction w begins = omega arith
begins_looser Conjunction w begins = omega arith
begins_looser kinds.Sum w begins = omega arith
begins_looser Product w begins = omega arith

pub sign_goes_on : (k : Chain) (w : Word) → IsSignOf k w → GoesOn (chain_level k) w
sign_goes_on Disjunction w is = subst (λ (v : Word). GoesOn E v) (sym is) (omega arith)
sign_goes_on Conjunction w is = subst (λ (v : Word). GoesOn Conj v) (sym is) (omega arith)
sign_goes_on kinds.Sum w (inl is) = subst (λ (v : Word). GoesOn Sum v) (sym is) (omega arith)
sign_goes_on kinds.Sum w (inr is) = subst (λ (v : Word). GoesOn Sum v) (sym is) (omega arith)
sign_goes_on Product w (inl is) = subst (λ (v : Word). GoesOn Prod v) (sym is) (omega arith)
sign_goes_on Product w (inr is) = subst (λ (v : Word). GoesOn Prod v) (sym is) (omega arith)

sign_apart : (k : Chain) (w : Word) → IsSignOf k w → GoesOn (operand k) w → ⊥
sign_apart Disjunction w is goes = let e : rank Conj < strength Or = subst (λ (v : Word). GoesOn Conj v) is goes in omega arith
sign_apart Conjunction w is goes = let e : rank Neg < strength And = subst (λ (v : Word). GoesOn Neg v) is goes in omega arith
sign_apart kinds.Sum w (inl is) goes = let e : rank Prod < strength Plus = subst (λ (v : Word). GoesOn Prod v) is goes in omega arith
sign_apart kinds.Sum w (inr is) goes = let e : rank Prod < strength Minus = subst (λ (v : Word). GoesOn Prod v) is goes in omega arith
sign_apart Product w (inl is) goes = let e : rank Unary < strength Star = subst (λ (v : Word). GoesOn Unary v) is goes in omega arith
sign_apart Product w (inr is) goes = let e : rank Unary < strength Percent = subst (λ (v : Word). GoesOn Unary v) is goes in omega arith

operand_goes_on : (k : Chain) (w : Word) → GoesOn (operand k) w → GoesOn (chain_level k) w
operand_goes_on Disjunction w goes = omega arith
operand_goes_on Conjunction w goes = omega arith
operand_goes_on kinds.Sum w goes = omega arith
operand_goes_on Product w goes = omega arith

pub rel_strength : (rel : Rel) → strength (rel_word rel) ≡ 4
rel_strength rels.Equal = refl
rel_strength rels.NotEqual = refl
rel_strength rels.Less = refl
rel_strength rels.AtMost = refl
rel_strength rels.Greater = refl
rel_strength rels.AtLeast = refl

rel_in : Word → Option Rel
rel_in Equal = Some rels.Equal
rel_in NotEqual = Some rels.NotEqual
rel_in Less = Some rels.Less
rel_in AtMost = Some rels.AtMost
rel_in Greater = Some rels.Greater
rel_in AtLeast = Some rels.AtLeast
rel_in _ = None

rel_is : (rel : Rel) → rel_in (rel_word rel) ≡ Some rel
unfolding rel_in
rel_is rels.Equal = refl
rel_is rels.NotEqual = refl
rel_is rels.Less = refl
rel_is rels.AtMost = refl
rel_is rels.Greater = refl
rel_is rels.AtLeast = refl

pub same_rel : (a b : Rel) (v w : Word) → v ≡ w → v ≡ rel_word a → w ≡ rel_word b → a ≡ b
same_rel a b v w same is_a is_b = let e : Some a ≡ Some b = sym (rel_is a) ∙ ap rel_in (sym is_a ∙ same ∙ is_b) ∙ rel_is b in cc

-- Levels begin.

each_begins : (level : Level) (e : Expr) (ts : List Lexeme) → IsExpr level e ts → StartsIn (BeginsAt level) ts
each_begins level e ts (disjunction first more front back is are) = starts_append (BeginsAt E) front back (starts_wider (BeginsAt Conj) (BeginsAt E) front (begins_looser Disjunction) (each_begins Conj first front is))
each_begins level e ts (conjunction first more front back is are) = starts_append (BeginsAt Conj) front back (starts_wider (BeginsAt Neg) (BeginsAt Conj) front (begins_looser Conjunction) (each_begins Neg first front is))
each_begins level e ts (negated t x inside is_not is) = subst (λ (v : Word). BeginsAt Neg v) (sym is_not) (omega arith)
each_begins level e ts (not_negated x inside is) = starts_wider (BeginsAt Cmp) (BeginsAt Neg) inside (λ w begins. omega arith) (each_begins Cmp x inside is)
each_begins level e ts (compared s rel a b front back is_rel is_a is_b) = starts_append (BeginsAt Cmp) front (s ∷ back) (starts_wider (BeginsAt Sum) (BeginsAt Cmp) front (λ w begins. omega arith) (each_begins Sum a front is_a))
each_begins level e ts (not_compared x inside is) = starts_wider (BeginsAt Sum) (BeginsAt Cmp) inside (λ w begins. omega arith) (each_begins Sum x inside is)
each_begins level e ts (sum first more front back is are) = starts_append (BeginsAt Sum) front back (starts_wider (BeginsAt Prod) (BeginsAt Sum) front (begins_looser kinds.Sum) (each_begins Prod first front is))
each_begins level e ts (product first more front back is are) = starts_append (BeginsAt Prod) front back (starts_wider (BeginsAt Unary) (BeginsAt Prod) front (begins_looser Product) (each_begins Unary first front is))
each_begins level e ts (negative_number s digits is_minus is_number are) = subst (λ (v : Word). BeginsAt Unary v) (sym is_minus) (omega arith)
each_begins level e ts (minus_of s x inside is_minus other is) = subst (λ (v : Word). BeginsAt Unary v) (sym is_minus) (omega arith)
each_begins level e ts (no_minus x inside is) = starts_wider (BeginsAt Prim) (BeginsAt Unary) inside (λ w begins. omega arith) (each_begins Prim x inside is)
each_begins level e ts (field_name t is) = subst (λ (v : Word). BeginsAt Prim v) (sym is) (omega arith)
each_begins level e ts (constant_number t is digits) = subst (λ (v : Word). BeginsAt Prim v) (sym is) (omega arith)
each_begins level e ts (constant_text t values is quoted) = subst (λ (v : Word). BeginsAt Prim v) (sym is) (omega arith)
each_begins level e ts (constant_true t is) = subst (λ (v : Word). BeginsAt Prim v) (sym is) (omega arith)
each_begins level e ts (constant_false t is) = subst (λ (v : Word). BeginsAt Prim v) (sym is) (omega arith)
each_begins level e ts (brackets left right x inside is close is_x) = subst (λ (v : Word). BeginsAt Prim v) (sym is) (omega arith)
each_begins level e ts (many_before left op right kind first second others front back is is_many close is_first are) = subst (λ (v : Word). BeginsAt Prim v) (sym is) (omega arith)
each_begins level e ts (remainder_before left op right a b front back is is_op close is_a is_b) = subst (λ (v : Word). BeginsAt Prim v) (sym is) (omega arith)
each_begins level e ts (compared_before left op right rel a b front back is is_op close is_a is_b) = subst (λ (v : Word). BeginsAt Prim v) (sym is) (omega arith)

pub level_begins : (level : Level) → AllStartIn (BeginsAt level) (IsExpr level)
level_begins level = record { starts = λ e ts is. each_begins level e ts is }

-- Samples.

pub sample_prim : HasSample (IsExpr Prim)
sample_prim = record { value = field (record { line = 1; column = 1 }) []; tokens = sample_token Id ∷ []; spelled = field_name (sample_token Id) refl }

pub sample_level : (level : Level) → HasSample (IsExpr level)
sample_level level = record { value = field (record { line = 1; column = 1 }) []; tokens = sample_token Id ∷ []; spelled = primary level _ _ (field_name (sample_token Id) refl) }

-- what is read where a form goes on by fewer words is read where it goes on by more
pub wider_read : {A : Type 0} {form : A → List Lexeme → Type 0} {few many : Word → Type 0} {tokens rest : List Lexeme} {a : A} → ((w : Word) → few w → many w) → IsRead form few tokens a rest → IsRead form many tokens a rest
wider_read {few = few} {many = many} wider read = record { part = read.part; split = read.split; spelled = read.spelled; only = λ more other after w as_rest same spelled stops. read.only more other after w as_rest same spelled (stops_fewer many few after wider stops) }

pub wider_fails : {A : Type 0} {form : A → List Lexeme → Type 0} {few many : Word → Type 0} {tokens : List Lexeme} (bad : Option (List Lexeme)) → ((w : Word) → few w → many w) → Fails form few tokens bad → Fails form many tokens bad
wider_fails None wider fails = record { why = tt }
wider_fails {few = few} {many = many} (Some bad) wider fails = let r = fails.why in record { why = record { part = r.part; split = r.split; value = r.value; later = r.later; begins = r.begins; none = λ more other after w as_bad same spelled stops. r.none more other after w as_bad same spelled (stops_fewer many few after wider stops) } }

-- Chains.

-- a sign between operands, as a form
abbrev pub IsSignAt : Chain → Lexeme → List Lexeme → Type 0
IsSignAt k s tokens = (tokens ≡ s ∷ []) × IsSignOf k s.word

-- a sign comes
abbrev pub SignNext : Chain → List Lexeme → Type 0
SignNext k tokens = StartsIn (IsSignOf k) tokens

one_token : {goes_on : Word → Type 0} (fact : Lexeme → Type 0) (tokens rest : List Lexeme) (s : Lexeme) → tokens ≡ s ∷ rest → fact s → IsRead (λ (t : Lexeme) (ts : List Lexeme). (ts ≡ t ∷ []) × fact t) goes_on tokens s rest
one_token fact tokens rest s here is = record {
  part = s ∷ [];
  split = here;
  spelled = (refl, is);
  only = λ more other after v as_rest same is_form stops. let e : s ∷ more ≡ v ∷ after = same ∙ ap (λ l. l ++ after) is_form.0 in (cc, cc);
}

sign_read : {goes_on : Word → Type 0} (k : Chain) (tokens rest : List Lexeme) (s : Lexeme) → tokens ≡ s ∷ rest → IsSignOf k s.word → IsRead (IsSignAt k) goes_on tokens s rest
sign_read k tokens rest s here is = one_token (λ t. IsSignOf k t.word) tokens rest s here is

sign_next : (k : Chain) (t : Lexeme) (tokens rest : List Lexeme) → tokens ≡ t ∷ rest → IsSignOf k t.word → SignNext k tokens
sign_next k t tokens rest here is = subst (λ (l : List Lexeme). SignNext k l) (sym here) is

ends_operand : (k : Chain) → Ends (GoesOn (operand k)) (AreMore k) (GoesOn (chain_level k))
ends_operand k w other after parts stops = by k w other after parts stops
  where
    by : (k : Chain) (w : List (Lexeme × Expr)) (other after : List Lexeme) → AreMore k w other → Stops (GoesOn (chain_level k)) after → Stops (GoesOn (operand k)) (other ++ after)
    by k w other after (no_more _) stops = stops_fewer (GoesOn (chain_level k)) (GoesOn (operand k)) after (operand_goes_on k) stops
    by k w other after (one_more _ s x more front back is_sign e rest) stops = sign_apart k s.word is_sign

more_form : Chain → Lexeme × (Expr × List (Lexeme × Expr)) → List Lexeme → Type 0
more_form k = IsSignAt k ⊗ (IsExpr (operand k) ⊗ AreMore k)

-- where a sign comes, the chain goes on
more_makes : (k : Chain) (tokens : List Lexeme) → SignNext k tokens → Makes (IsSignAt k ⊗ (IsExpr (operand k) ⊗ AreMore k)) (AreMore k) (λ v. (v.0, v.1.0) ∷ v.1.1) (GoesOn (chain_level k)) tokens
more_makes k tokens is_next = stands tokens (λ v ts spelled. into v ts spelled) (λ b ts spelled. back k b ts spelled) (starts_wider (IsSignOf k) (GoesOn (chain_level k)) tokens (sign_goes_on k) is_next)
  where
    into : (v : Lexeme × (Expr × List (Lexeme × Expr))) (ts : List Lexeme) → (IsSignAt k ⊗ (IsExpr (operand k) ⊗ AreMore k)) v ts → AreMore k ((v.0, v.1.0) ∷ v.1.1) ts
    into v ts spelled =
        let whole : v.0 ∷ spelled.at_back.front ++ spelled.at_back.back ≡ ts = sym (spelled.split ∙ ap (λ l. l ++ spelled.back) spelled.at_front.0 ∙ ap (λ l. v.0 ∷ l) spelled.at_back.split) in
        subst (λ (l : List Lexeme). AreMore k ((v.0, v.1.0) ∷ v.1.1) l) whole (one_more k v.0 v.1.0 v.1.1 spelled.at_back.front spelled.at_back.back spelled.at_front.1 spelled.at_back.at_front spelled.at_back.at_back)

    back : (k : Chain) (b : List (Lexeme × Expr)) (ts : List Lexeme) → AreMore k b ts → (ts ≡ []) ⊎ ((v : Lexeme × (Expr × List (Lexeme × Expr))) × (IsSignAt k ⊗ (IsExpr (operand k) ⊗ AreMore k)) v ts × (b ≡ (v.0, v.1.0) ∷ v.1.1))
    back k b ts (no_more _) = inl refl
    back k b ts (one_more _ s x more front behind is_sign e rest) =
        inr ((s, (x, more)), record { front = s ∷ []; back = front ++ behind; split = refl; at_front = (refl, is_sign); at_back = record { front = front; back = behind; split = refl; at_front = e; at_back = rest } }, refl)

no_sign_stops : (k : Chain) (tokens : List Lexeme) → NoSign k tokens → Stops (IsSignOf k) tokens
no_sign_stops k [] none = tt
no_sign_stops k (t ∷ ts) none = none

-- elsewhere it has ended
more_end : {goes_on : Word → Type 0} (k : Chain) (tokens : List Lexeme) → NoSign k tokens → IsRead (AreMore k) goes_on tokens [] tokens
more_end k tokens none = left_out (IsSignOf k) tokens [] (no_more k) (λ b ts spelled. each k b ts spelled) (no_sign_stops k tokens none)
  where
    each : (k : Chain) (b : List (Lexeme × Expr)) (ts : List Lexeme) → AreMore k b ts → ((b ≡ []) × (ts ≡ [])) ⊎ StartsIn (IsSignOf k) ts
    each k b ts (no_more _) = inl (refl, refl)
    each k b ts (one_more _ s x more front behind is_sign e rest) = inr is_sign

chain_makes : (k : Chain) (goes_on : Word → Type 0) (tokens : List Lexeme) → Makes (IsExpr (operand k) ⊗ AreMore k) (IsExpr (chain_level k)) (λ v. chain_of k v.0 v.1) goes_on tokens
chain_makes k goes_on tokens = remade (λ v ts spelled. subst (λ (l : List Lexeme). IsExpr (chain_level k) (chain_of k v.0 v.1) l) (sym spelled.split) (chained k v.0 v.1 spelled.front spelled.back spelled.at_front spelled.at_back)) (λ b ts spelled. back k b ts spelled)
  where
    back : (k : Chain) (b : Expr) (ts : List Lexeme) → IsExpr (chain_level k) b ts → (v : Expr × List (Lexeme × Expr)) × (IsExpr (operand k) ⊗ AreMore k) v ts × (b ≡ chain_of k v.0 v.1)
    back Disjunction b ts (disjunction first more front behind e rest) = ((first, more), record { front = front; back = behind; split = refl; at_front = e; at_back = rest }, refl)
    back Conjunction b ts (conjunction first more front behind e rest) = ((first, more), record { front = front; back = behind; split = refl; at_front = e; at_back = rest }, refl)
    back kinds.Sum b ts (sum first more front behind e rest) = ((first, more), record { front = front; back = behind; split = refl; at_front = e; at_back = rest }, refl)
    back Product b ts (product first more front behind e rest) = ((first, more), record { front = front; back = behind; split = refl; at_front = e; at_back = rest }, refl)

sample_more : (k : Chain) → HasSample (AreMore k)
sample_more k = record { value = []; tokens = []; spelled = no_more k }

pub first_operand_fails : (k : Chain) (tokens : List Lexeme) (bad : Option (List Lexeme)) → Fails (IsExpr (operand k)) (GoesOn (operand k)) tokens bad → Fails (IsExpr (chain_level k)) (GoesOn (chain_level k)) tokens bad
first_operand_fails k tokens bad fails = as_fails bad (chain_makes k (GoesOn (chain_level k)) tokens) (first_fails bad (ends_operand k) (sample_more k) fails)

pub one_operand : (k : Chain) (tokens rest : List Lexeme) (x : Expr) → IsRead (IsExpr (operand k)) (GoesOn (operand k)) tokens x rest → NoSign k rest → IsRead (IsExpr (chain_level k)) (GoesOn (chain_level k)) tokens x rest
one_operand k tokens rest x read none = as_read (chain_makes k (GoesOn (chain_level k)) tokens) (then_read (ends_operand k) read (more_end k rest none))

-- an operand was read, and more of the chain are to be
pub chain_starts : (k : Chain) (tokens rest : List Lexeme) (x : Expr) → IsRead (IsExpr (operand k)) (GoesOn (operand k)) tokens x rest → IsPartWay (IsExpr (chain_level k)) (AreMore k) (GoesOn (chain_level k)) (λ later. chain_of k x later) tokens rest
chain_starts k tokens rest x read = record {
  read = λ b end left. as_read (chain_makes k (GoesOn (chain_level k)) tokens) (then_read (ends_operand k) read left);
  fails = λ bad left. as_fails bad (chain_makes k (GoesOn (chain_level k)) tokens) (then_fails bad (ends_operand k) read left);
}

pub chain_fails : (k : Chain) (tokens rest after : List Lexeme) (s : Lexeme) (to : List (Lexeme × Expr) → Expr) (bad : Option (List Lexeme)) → IsPartWay (IsExpr (chain_level k)) (AreMore k) (GoesOn (chain_level k)) to tokens rest → rest ≡ s ∷ after → IsSignOf k s.word
    → Fails (IsExpr (operand k)) (GoesOn (operand k)) after bad → Fails (IsExpr (chain_level k)) (GoesOn (chain_level k)) tokens bad
chain_fails k tokens rest after s to bad so_far here is_sign fails =
    so_far.fails bad (as_fails bad (more_makes k rest (sign_next k s rest after here is_sign))
    (then_fails bad (ends_closed (IsExpr (operand k) ⊗ AreMore k) (GoesOn (chain_level k))) (sign_read k rest after s here is_sign) (first_fails bad (ends_operand k) (sample_more k) fails)))

pub chain_more : (k : Chain) (tokens rest after behind : List Lexeme) (s : Lexeme) (first x : Expr) (more : List (Lexeme × Expr)) → IsPartWay (IsExpr (chain_level k)) (AreMore k) (GoesOn (chain_level k)) (λ later. chain_of k first (more ++ later)) tokens rest → rest ≡ s ∷ after → IsSignOf k s.word
    → IsRead (IsExpr (operand k)) (GoesOn (operand k)) after x behind → IsPartWay (IsExpr (chain_level k)) (AreMore k) (GoesOn (chain_level k)) (λ later. chain_of k first ((more ++ (s, x) ∷ []) ++ later)) tokens behind
chain_more k tokens rest after behind s first x more so_far here is_sign read = record {
  read = λ b end left. subst (λ (l : List (Lexeme × Expr)). IsRead (IsExpr (chain_level k)) (GoesOn (chain_level k)) tokens (chain_of k first l) end) (sym (append_assoc more ((s, x) ∷ []) b))
      (so_far.read ((s, x) ∷ b) end (as_read (more_makes k rest (sign_next k s rest after here is_sign))
      (then_read (ends_closed (IsExpr (operand k) ⊗ AreMore k) (GoesOn (chain_level k))) (sign_read k rest after s here is_sign) (then_read (ends_operand k) read left))));
  fails = λ bad left. so_far.fails bad (as_fails bad (more_makes k rest (sign_next k s rest after here is_sign))
      (then_fails bad (ends_closed (IsExpr (operand k) ⊗ AreMore k) (GoesOn (chain_level k))) (sign_read k rest after s here is_sign) (then_fails bad (ends_operand k) read left)));
}

pub chain_ends : (k : Chain) (tokens rest : List Lexeme) (first : Expr) (more : List (Lexeme × Expr)) → IsPartWay (IsExpr (chain_level k)) (AreMore k) (GoesOn (chain_level k)) (λ later. chain_of k first (more ++ later)) tokens rest → NoSign k rest
    → IsRead (IsExpr (chain_level k)) (GoesOn (chain_level k)) tokens (chain_of k first more) rest
chain_ends k tokens rest first more so_far none = subst (λ (l : List (Lexeme × Expr)). IsRead (IsExpr (chain_level k)) (GoesOn (chain_level k)) tokens (chain_of k first l) rest) (append-nil more) (so_far.read [] rest (more_end k rest none))

-- Negations.

pub negated_makes : (tokens : List Lexeme) → IsNext Not tokens → Makes (IsWord Not ⊗ IsExpr Cmp) (IsExpr Neg) (λ v. negation v.0.place v.1) (GoesOn Neg) tokens
negated_makes tokens is_next = alternative (BeginsAt Cmp) tokens (λ v ts spelled. into v ts spelled) (λ b ts spelled. back b ts spelled) (stops_next Not (BeginsAt Cmp) tokens is_next (λ begins. omega arith))
  where
    into : (v : Lexeme × Expr) (ts : List Lexeme) → (IsWord Not ⊗ IsExpr Cmp) v ts → IsExpr Neg (negation v.0.place v.1) ts
    into v ts spelled = subst (λ (l : List Lexeme). IsExpr Neg (negation v.0.place v.1) l) (sym (spelled.split ∙ ap (λ l. l ++ spelled.back) spelled.at_front.0)) (negated v.0 v.1 spelled.back spelled.at_front.1 spelled.at_back)

    back : (b : Expr) (ts : List Lexeme) → IsExpr Neg b ts → StartsIn (BeginsAt Cmp) ts ⊎ ((v : Lexeme × Expr) × (IsWord Not ⊗ IsExpr Cmp) v ts × (b ≡ negation v.0.place v.1))
    back b ts (negated t x inside is_not is) = inr ((t, x), record { front = t ∷ []; back = inside; split = refl; at_front = (refl, is_not); at_back = is }, refl)
    back b ts (not_negated x inside is) = inl ((level_begins Cmp).starts x inside is)

pub not_negated_makes : (tokens : List Lexeme) → IsOther Not tokens → Makes (IsExpr Cmp) (IsExpr Neg) (λ e. e) (GoesOn Neg) tokens
not_negated_makes tokens is_other = alternative (λ w. w ≡ Not) tokens (λ e ts is. not_negated e ts is) (λ b ts spelled. back b ts spelled) (stops_other Not tokens is_other)
  where
    back : (b : Expr) (ts : List Lexeme) → IsExpr Neg b ts → StartsIn (λ w. w ≡ Not) ts ⊎ ((e : Expr) × IsExpr Cmp e ts × (b ≡ e))
    back b ts (negated t x inside is_not is) = inl is_not
    back b ts (not_negated x inside is) = inr (x, is, refl)

pub cmp_in_neg : (w : Word) → GoesOn Cmp w → GoesOn Neg w
cmp_in_neg w goes = omega arith

-- Comparisons.

abbrev pub IsRelAt : Lexeme × Rel → List Lexeme → Type 0
IsRelAt v tokens = (tokens ≡ v.0 ∷ []) × (v.0.word ≡ rel_word v.1)

abbrev pub IsCompared : Option ((Lexeme × Rel) × Expr) → List Lexeme → Type 0
IsCompared None = Nothing
IsCompared (Some v) = IsRelAt v.0 ⌢ IsExpr Sum v.1

abbrev pub compared_of : Expr → Option ((Lexeme × Rel) × Expr) → Expr
compared_of a None = a
compared_of a (Some v) = compare v.0.0.place v.0.1 a v.1

abbrev IsRel : Word → Type 0
IsRel w = (rel : Rel) × (w ≡ rel_word rel)

pub rel_read : {goes_on : Word → Type 0} (tokens rest : List Lexeme) (t : Lexeme) (rel : Rel) → tokens ≡ t ∷ rest → t.word ≡ rel_word rel → IsRead IsRelAt goes_on tokens (t, rel) rest
rel_read tokens rest t rel here is = record {
  part = t ∷ [];
  split = here;
  spelled = (refl, is);
  only = λ more other after v as_rest same is_form stops.
      let e : t ∷ more ≡ v.0 ∷ after = same ∙ ap (λ l. l ++ after) is_form.0 in
      let f : v.0 ≡ t = cc in
      let g : v.1 ≡ rel = same_rel v.1 rel v.0.word t.word (ap (λ (x : Lexeme). x.word) f) is_form.1 is in
      let both : v ≡ (t, rel) = λ i. (f i, g i) in
      (both, cc);
}

rel_next : (tokens rest : List Lexeme) (t : Lexeme) (rel : Rel) → tokens ≡ t ∷ rest → t.word ≡ rel_word rel → StartsIn (λ w. (r : Rel) × (w ≡ rel_word r)) tokens
rel_next tokens rest t rel here is = subst (λ (l : List Lexeme). StartsIn (λ w. (r : Rel) × (w ≡ rel_word r)) l) (sym here) (rel, is)

rel_goes_on : (w : Word) → IsRel w → GoesOn Cmp w
rel_goes_on w is = let e : strength w ≡ 4 = ap strength is.1 ∙ rel_strength is.0 in omega arith

compared_starts : (m : Option ((Lexeme × Rel) × Expr)) (ts : List Lexeme) → IsCompared m ts → ((m ≡ None) × (ts ≡ [])) ⊎ StartsIn (λ w. (r : Rel) × (w ≡ rel_word r)) ts
compared_starts None ts none = inl (refl, none)
compared_starts (Some v) ts spelled = inr (subst (λ (l : List Lexeme). StartsIn (λ w. (r : Rel) × (w ≡ rel_word r)) l) (sym (spelled.split ∙ ap (λ l. l ++ spelled.back) spelled.at_front.0)) (v.0.1, spelled.at_front.1))

compared_makes : (goes_on : Word → Type 0) (tokens : List Lexeme) → Makes (IsExpr Sum ⊗ IsCompared) (IsExpr Cmp) (λ v. compared_of v.0 v.1) goes_on tokens
compared_makes goes_on tokens = remade (λ v ts spelled. into v.0 v.1 ts spelled) (λ b ts spelled. back b ts spelled)
  where
    into : (a : Expr) (m : Option ((Lexeme × Rel) × Expr)) (ts : List Lexeme) → (IsExpr Sum a ⌢ IsCompared m) ts → IsExpr Cmp (compared_of a m) ts
    into a None ts spelled = subst (λ (l : List Lexeme). IsExpr Cmp a l) (sym (spelled.split ∙ ap (λ l. spelled.front ++ l) spelled.at_back ∙ append-nil spelled.front)) (not_compared a spelled.front spelled.at_front)
    into a (Some v) ts spelled = let later = spelled.at_back in
        subst (λ (l : List Lexeme). IsExpr Cmp (compare v.0.0.place v.0.1 a v.1) l) (sym (spelled.split ∙ ap (λ l. spelled.front ++ l) (later.split ∙ ap (λ l. l ++ later.back) later.at_front.0)))
        (compared v.0.0 v.0.1 a v.1 spelled.front later.back later.at_front.1 spelled.at_front later.at_back)

    back : (b : Expr) (ts : List Lexeme) → IsExpr Cmp b ts → (v : Expr × Option ((Lexeme × Rel) × Expr)) × (IsExpr Sum ⊗ IsCompared) v ts × (b ≡ compared_of v.0 v.1)
    back b ts (compared s rel x y front behind is_rel is_x is_y) = ((x, Some ((s, rel), y)), record { front = front; back = s ∷ behind; split = refl; at_front = is_x; at_back = record { front = s ∷ []; back = behind; split = refl; at_front = (refl, is_rel); at_back = is_y } }, refl)
    back b ts (not_compared x inside is) = ((x, None), record { front = inside; back = []; split = sym (append-nil inside); at_front = is; at_back = refl }, refl)

ends_left : Ends (GoesOn Sum) IsCompared (GoesOn Cmp)
ends_left m other after spelled stops = elim (compared_starts m other spelled) [
  | inl none ↦ subst (λ (l : List Lexeme). Stops (GoesOn Sum) (l ++ after)) (sym none.1) (stops_fewer (GoesOn Cmp) (GoesOn Sum) after (λ w goes. omega arith) stops)
  | inr starts ↦ stops_of (λ w. (r : Rel) × (w ≡ rel_word r)) (GoesOn Sum) (other ++ after) (λ w is goes. let e : strength w ≡ 4 = ap strength is.1 ∙ rel_strength is.0 in omega arith) (starts_append (λ w. (r : Rel) × (w ≡ rel_word r)) other after starts)
]

no_rel_stops : (tokens : List Lexeme) → NoRel tokens → Stops (λ w. (r : Rel) × (w ≡ rel_word r)) tokens
no_rel_stops [] none = tt
no_rel_stops (t ∷ ts) none = λ is. none is.0 is.1

pub left_fails : (tokens : List Lexeme) (bad : Option (List Lexeme)) → Fails (IsExpr Sum) (GoesOn Sum) tokens bad → Fails (IsExpr Cmp) (GoesOn Cmp) tokens bad
left_fails tokens bad fails = as_fails bad (compared_makes (GoesOn Cmp) tokens) (first_fails bad ends_left (record { value = None; tokens = []; spelled = refl }) fails)

pub left_alone : (tokens rest : List Lexeme) (a : Expr) → IsRead (IsExpr Sum) (GoesOn Sum) tokens a rest → NoRel rest → IsRead (IsExpr Cmp) (GoesOn Cmp) tokens a rest
left_alone tokens rest a read none = as_read (compared_makes (GoesOn Cmp) tokens) (then_read ends_left read (left_out (λ w. (r : Rel) × (w ≡ rel_word r)) rest None refl (λ m ts spelled. compared_starts m ts spelled) (no_rel_stops rest none)))

some_makes : (tokens : List Lexeme) → StartsIn (λ w. (r : Rel) × (w ≡ rel_word r)) tokens → Makes (IsRelAt ⊗ IsExpr Sum) IsCompared (λ v. Some v) (GoesOn Cmp) tokens
some_makes tokens starts = stands tokens (λ v ts spelled. spelled) (λ m ts spelled. back m ts spelled) (starts_wider (λ w. (r : Rel) × (w ≡ rel_word r)) (GoesOn Cmp) tokens rel_goes_on starts)
  where
    back : (m : Option ((Lexeme × Rel) × Expr)) (ts : List Lexeme) → IsCompared m ts → (ts ≡ []) ⊎ ((v : (Lexeme × Rel) × Expr) × (IsRelAt ⊗ IsExpr Sum) v ts × (m ≡ Some v))
    back None ts none = inl none
    back (Some v) ts spelled = inr (v, spelled, refl)

pub right_fails : (tokens rest behind : List Lexeme) (a : Expr) (t : Lexeme) (rel : Rel) (bad : Option (List Lexeme)) → IsRead (IsExpr Sum) (GoesOn Sum) tokens a rest → rest ≡ t ∷ behind → t.word ≡ rel_word rel → Fails (IsExpr Sum) (GoesOn Sum) behind bad → Fails (IsExpr Cmp) (GoesOn Cmp) tokens bad
right_fails tokens rest behind a t rel bad read here is fails = as_fails bad (compared_makes (GoesOn Cmp) tokens) (then_fails bad ends_left read (as_fails bad (some_makes rest (rel_next rest behind t rel here is))
    (then_fails bad (ends_closed (IsExpr Sum) (GoesOn Cmp)) (rel_read rest behind t rel here is) (wider_fails bad (λ w goes. omega arith) fails))))

pub both_read : (tokens rest behind end : List Lexeme) (a b : Expr) (t : Lexeme) (rel : Rel) → IsRead (IsExpr Sum) (GoesOn Sum) tokens a rest → rest ≡ t ∷ behind → t.word ≡ rel_word rel → IsRead (IsExpr Sum) (GoesOn Sum) behind b end → IsRead (IsExpr Cmp) (GoesOn Cmp) tokens (compare t.place rel a b) end
both_read tokens rest behind end a b t rel read here is right = as_read (compared_makes (GoesOn Cmp) tokens) (then_read ends_left read (as_read (some_makes rest (rel_next rest behind t rel here is))
    (then_read (ends_closed (IsExpr Sum) (GoesOn Cmp)) (rel_read rest behind t rel here is) (wider_read (λ w goes. omega arith) right))))
