-- What stands in parentheses.
use Rattle.std.proofs.Common.{◌≡◌, ℕ, pos, ◌<◌, List, [], ◌∷◌, ◌++◌, refl, sym, ap, ◌∙◌, subst, append_assoc, append-nil, arith, Option, Some, None, Result, ◌⊎◌, inl, inr}
use Rattle.std.specs.Str.Parse.{digits_value}
use Rattle.model_program.specs.declared.Word.{Word}
use Rattle.model_program.specs.declared.Word.TheVariants.{And, Or, True, False, Id, Number, Quoted, RoundOpen, RoundClose, Equal, NotEqual, AtMost, AtLeast, Less, Greater, Plus, Minus, Star, Percent}
use Rattle.model_program.specs.Lexeme.{Lexeme}
use Rattle.model_program.specs.Joined.{◌⌢◌, IsNext, IsOther, ◌⊗◌}
use Rattle.read_forms.specs.Reads.{GoesOnAs, Stops, IsRead, Fails, StartsIn, closed}
use Rattle.model_program.specs.Grammar.{IsWord, IsSign, sign, Many}
use Rattle.read_forms.specs.Parts.{Ends, HasSample, other_than}
use Rattle.read_forms.proofs.Forms.{Makes, as_read, as_fails, then_read, then_fails, first_fails, ends_closed, ends_starting, sample_as, sample_pair, starts_append, starts_wider, starts_joined, starts_as, starts_stops, stops_of, stops_other_than, alternative, remade, Chained, chained_read, chained_fails, chained_first_fails}
use Rattle.read_forms.proofs.Words.{word_read, sign_starts, next_of, sample_sign}
use Rattle.read_forms.proofs.Lists.{IsPartWay, to_left, to_right}
use Rattle.model_grammar.specs.declared.Chain.{Chain}
use Rattle.model_grammar.specs.declared.Chain.TheVariants.{Disjunction, Conjunction, Product}
use Rattle.model_grammar.specs.declared.Chain.TheVariants as kinds
use Rattle.model_grammar.specs.declared.Rel.{Rel}
use Rattle.model_grammar.specs.declared.Rel.TheVariants as rels
use Rattle.model_grammar.specs.declared.Level.{Level}
use Rattle.model_grammar.specs.declared.Level.TheVariants.{E, Conj, Neg, Cmp, Sum, Prod, Unary, Prim}
use Rattle.model_grammar.specs.Operators.{IsMany, rel_word}
use Rattle.model_grammar.specs.Syntax.{Expr, field, number, text, truth, negation, compare, minus, chain}
use Rattle.model_grammar.specs.Expressions.{IsExpr, IsE, disjunction, conjunction, negated, not_negated, compared, not_compared, sum, product, negative_number, minus_of, no_minus, field_name, constant_number, constant_text, constant_true, constant_false, brackets, many_before, remainder_before, compared_before, AreMore, no_more, one_more, ArePrims, no_prims, prims, chain_of, negative}
use Rattle.model_grammar.specs.Printed.{rank}
use Rattle.model_grammar.proofs.Levels.{loosest}
use Rattle.label_reader.specs.Levels.{strength, GoesOn, reach, BeginsAt, IsNoRel, NoRel, NoMany}
use Rattle.label_reader.specs.declared.stop.Stop.{Stop}
use Rattle.label_reader.specs.Results.{Reads}
use Rattle.label_reader.specs.Inside.{IsInside, nested, many, remainder, AreTwo, AreOperands, IsBehindFirst, IsBare, IsUnsigned, IsWhole, StartsPrimary}
use Rattle.label_reader.specs.Inside.{compared as inside_compared}
use Rattle.label_reader.proofs.LevelForms.{level_begins, sample_prim, IsRelAt, rel_strength}
use Rattle.label_reader.proofs.Joins.{Spelled, spelled_read, spelled_fails}
use Rattle.label_reader.specs.Lists.{closing_of}
use Rattle.label_reader.proofs.Closings.{IsClosable, sample_closing}
use Rattle.label_reader.proofs.Gathered.{signed}
use Rattle.label_reader.proofs.Primaries.{open_makes}
use Rattle.label_reader.proofs.Keeping.{reads_whole}

-- Operators before their operands.

chain_in : Word → Option Chain
chain_in Or = Some Disjunction
chain_in And = Some Conjunction
chain_in Plus = Some kinds.Sum
chain_in Minus = Some kinds.Sum
chain_in Star = Some Product
chain_in _ = None

chain_found : (k : Chain) (w : Word) → IsMany k w → chain_in w ≡ Some k
unfolding chain_in
chain_found Disjunction w is = ap chain_in is
chain_found Conjunction w is = ap chain_in is
chain_found kinds.Sum w (inl is) = ap chain_in is
chain_found kinds.Sum w (inr is) = ap chain_in is
chain_found Product w is = ap chain_in is

rel_no_chain : (rel : Rel) → chain_in (rel_word rel) ≡ None
unfolding chain_in
rel_no_chain rels.Equal = refl
rel_no_chain rels.NotEqual = refl
rel_no_chain rels.Less = refl
rel_no_chain rels.AtMost = refl
rel_no_chain rels.Greater = refl
rel_no_chain rels.AtLeast = refl

percent_no_chain : chain_in Percent ≡ None
unfolding chain_in
percent_no_chain = refl

same_chain : (a b : Chain) (v w : Word) → v ≡ w → IsMany a v → IsMany b w → a ≡ b
same_chain a b v w same is_a is_b = let e : Some a ≡ Some b = sym (chain_found a v is_a) ∙ ap chain_in same ∙ chain_found b w is_b in cc

many_no_percent : (k : Chain) (w : Word) → IsMany k w → w ≡ Percent → ⊥
many_no_percent k w is e = let f : Some k ≡ None = sym (chain_found k w is) ∙ ap chain_in e ∙ percent_no_chain in cc

many_no_rel : (k : Chain) (w : Word) (rel : Rel) → IsMany k w → w ≡ rel_word rel → ⊥
many_no_rel k w rel is e = let f : Some k ≡ None = sym (chain_found k w is) ∙ ap chain_in e ∙ rel_no_chain rel in cc

four_or_six : (n : ℕ) → n ≡ 4 → n ≡ 6 → ⊥
four_or_six n a b = omega arith

four_or_five : (n : ℕ) → n ≡ 4 → n ≡ 5 → ⊥
four_or_five n a b = omega arith

rel_no_percent : (rel : Rel) → rel_word rel ≡ Percent → ⊥
rel_no_percent rel e = four_or_six (strength (rel_word rel)) (rel_strength rel) (ap strength e)

-- no expression begins with an operator other than `-`
begins_no_many : (k : Chain) (w : Word) → IsMany k w → (w ≡ Minus → ⊥) → BeginsAt E w → ⊥
begins_no_many Disjunction w is other begins = let e : rank E < reach Or = subst (λ (v : Word). BeginsAt E v) is begins in omega arith
begins_no_many Conjunction w is other begins = let e : rank E < reach And = subst (λ (v : Word). BeginsAt E v) is begins in omega arith
begins_no_many kinds.Sum w (inl is) other begins = let e : rank E < reach Plus = subst (λ (v : Word). BeginsAt E v) is begins in omega arith
begins_no_many kinds.Sum w (inr is) other begins = other is
begins_no_many Product w is other begins = let e : rank E < reach Star = subst (λ (v : Word). BeginsAt E v) is begins in omega arith

begins_no_percent : (w : Word) → BeginsAt E w → w ≡ Percent → ⊥
begins_no_percent w begins e = let f : rank E < reach Percent = subst (λ (v : Word). BeginsAt E v) e begins in omega arith

rel_reach : (rel : Rel) → reach (rel_word rel) ≡ 0
rel_reach rels.Equal = refl
rel_reach rels.NotEqual = refl
rel_reach rels.Less = refl
rel_reach rels.AtMost = refl
rel_reach rels.Greater = refl
rel_reach rels.AtLeast = refl

begins_no_rel : (w : Word) → BeginsAt E w → (rel : Rel) → w ≡ rel_word rel → ⊥
begins_no_rel w begins rel e = let f : reach w ≡ 0 = ap reach e ∙ rel_reach rel in omega arith

rel_no_minus : (w : Word) → w ≡ Minus → IsNoRel w
rel_no_minus w e = λ rel f. four_or_five (strength w) (ap strength f ∙ rel_strength rel) (ap strength e)

-- Lists of primary expressions.

prims_are : (es : List Expr) (ts : List Lexeme) → ArePrims es ts → Many (IsExpr Prim) es ts
prims_are es ts no_prims = refl
prims_are es ts (prims e more front back is are) = record { front = front; back = back; split = refl; at_front = is; at_back = prims_are more back are }

are_prims : (es : List Expr) (ts : List Lexeme) → Many (IsExpr Prim) es ts → ArePrims es ts
are_prims [] ts none = subst (λ (l : List Lexeme). ArePrims [] l) (sym none) no_prims
are_prims (e ∷ es) ts joined = subst (λ (l : List Lexeme). ArePrims (e ∷ es) l) (sym joined.split) (prims e es joined.front joined.back joined.at_front (are_prims es joined.back joined.at_back))

prim_no_close : (w : Word) → BeginsAt Prim w → w ≡ RoundClose → ⊥
prim_no_close w begins e = let f : rank Prim < reach RoundClose = subst (λ (v : Word). BeginsAt Prim v) e begins in omega arith

pub prims_closable : IsClosable (IsExpr Prim) closed RoundClose
prims_closable = record {
  apart = record { starts = λ e ts is. starts_wider (BeginsAt Prim) (other_than RoundClose) ts prim_no_close ((level_begins Prim).starts e ts is) };
  ends = ends_closed (closing_of (IsExpr Prim) RoundClose) closed;
}

abbrev pub prefix_of : Chain → Lexeme → Expr → List Expr → Expr
prefix_of k op first es = chain_of k first (signed op es)

further_makes : (k : Chain) (op : Lexeme) (first : Expr) (tokens : List Lexeme) → Makes (IsExpr Prim ⊗ closing_of (IsExpr Prim) RoundClose) (IsBehindFirst k op first) (λ v. prefix_of k op first (v.0 ∷ v.1.0)) closed tokens
further_makes k op first tokens = remade (λ v ts spelled. into v ts spelled) (λ b ts spelled. back b ts spelled.others spelled.spelled spelled.is)
  where
    into : (v : Expr × (List Expr × Unit {0})) (ts : List Lexeme) → (IsExpr Prim ⊗ closing_of (IsExpr Prim) RoundClose) v ts → IsBehindFirst k op first (prefix_of k op first (v.0 ∷ v.1.0)) ts
    into v ts spelled = let later = spelled.at_back in record {
      others = v.0 ∷ v.1.0;
      spelled = record {
        front = spelled.front ++ later.front;
        back = later.back;
        split = spelled.split ∙ ap (λ l. spelled.front ++ l) later.split ∙ sym (append_assoc spelled.front later.front later.back);
        at_front = prims v.0 v.1.0 spelled.front later.front spelled.at_front (are_prims v.1.0 later.front later.at_front);
        at_back = later.at_back;
      };
      is = refl;
    }

    again : (second : Expr) (others : List Expr) (ts front close : List Lexeme) → ArePrims (second ∷ others) front → Many (IsExpr Prim) (second ∷ others) front → ts ≡ front ++ close → sign RoundClose close → (IsExpr Prim ⊗ closing_of (IsExpr Prim) RoundClose) (second, (others, tt)) ts
    again second others ts front close are joined split end = record {
      front = joined.front;
      back = joined.back ++ close;
      split = split ∙ ap (λ l. l ++ close) joined.split ∙ append_assoc joined.front joined.back close;
      at_front = joined.at_front;
      at_back = record { front = joined.back; back = close; split = refl; at_front = joined.at_back; at_back = end };
    }

    back : (b : Expr) (ts : List Lexeme) (others : List Expr) → AreOperands others ts → b ≡ prefix_of k op first others → (v : Expr × (List Expr × Unit {0})) × (IsExpr Prim ⊗ closing_of (IsExpr Prim) RoundClose) v ts × (b ≡ prefix_of k op first (v.0 ∷ v.1.0))
    back b ts [] spelled is = absurd spelled
    back b ts (second ∷ others) spelled is = ((second, (others, tt)), again second others ts spelled.front spelled.back spelled.at_front (prims_are (second ∷ others) spelled.front spelled.at_front) spelled.split spelled.at_back, is)

pub further_fails : (k : Chain) (op : Lexeme) (first : Expr) (tokens : List Lexeme) (bad : Option (List Lexeme)) → Fails (IsExpr Prim) closed tokens bad → Fails (IsBehindFirst k op first) closed tokens bad
further_fails k op first tokens bad fails = as_fails bad (further_makes k op first tokens) (first_fails bad (ends_closed (closing_of (IsExpr Prim) RoundClose) closed) (sample_closing (IsExpr Prim) RoundClose) fails)

pub further_starts : (k : Chain) (op : Lexeme) (first second : Expr) (tokens rest : List Lexeme) → IsRead (IsExpr Prim) closed tokens second rest → IsPartWay (IsBehindFirst k op first) (closing_of (IsExpr Prim) RoundClose) closed (λ v. prefix_of k op first ((second ∷ []) ++ v.0)) tokens rest
further_starts k op first second tokens rest read = record {
  read = λ b end more. as_read (further_makes k op first tokens) (then_read (ends_closed (closing_of (IsExpr Prim) RoundClose) closed) read more);
  fails = λ bad more. as_fails bad (further_makes k op first tokens) (then_fails bad (ends_closed (closing_of (IsExpr Prim) RoundClose) closed) read more);
}

-- A behind-first form has a spelling.
pub sample_behind_first : (k : Chain) (op : Lexeme) (first : Expr) → HasSample (IsBehindFirst k op first)
sample_behind_first k op first = sample_as (λ (v : Expr × (List Expr × Unit {0})). prefix_of k op first (v.0 ∷ v.1.0)) (λ v ts spelled. (further_makes k op first []).into v ts spelled) (sample_pair sample_prim (sample_closing (IsExpr Prim) RoundClose))

-- Two operands.

pub two_makes : (tokens : List Lexeme) → Makes ((IsExpr Prim ⊗ IsExpr Prim) ⊗ IsSign RoundClose) AreTwo (λ v. v.0) closed tokens
two_makes tokens = remade (λ v ts spelled. to_right (IsExpr Prim v.0.0) (IsExpr Prim v.0.1) (sign RoundClose) ts spelled) (λ b ts spelled. ((b, tt), to_left (IsExpr Prim b.0) (IsExpr Prim b.1) (sign RoundClose) ts spelled, refl))

pub sample_two : HasSample AreTwo
sample_two = sample_as (λ (v : Expr × (Expr × Unit {0})). (v.0, v.1.0)) (λ v ts spelled. spelled) (sample_pair sample_prim (sample_pair sample_prim (sample_sign RoundClose)))

-- Parentheses that begin with an operator.

first_is : (tokens more rest later : List Lexeme) (t u : Lexeme) → tokens ≡ t ∷ rest → GoesOnAs tokens more → more ≡ u ∷ later → u ≡ t
first_is tokens more rest later t u here as_tokens same =
    let e : GoesOnAs (t ∷ rest) more = subst (λ (l : List Lexeme). GoesOnAs l more) here as_tokens in
    let f : u ∷ later ≡ t ∷ e.0 = sym same ∙ e.1 in cc

-- `or`, `and`, `+` or `*`, its first operand and the others
abbrev pub IsManyAt : Chain → Lexeme → List Lexeme → Type 0
IsManyAt k op tokens = (tokens ≡ op ∷ []) × IsMany k op.word

abbrev pub many_parts : Chain → Lexeme × (Expr × Expr) → List Lexeme → Type 0
many_parts k = Chained (IsManyAt k) (λ op. Chained (IsExpr Prim) (λ first. IsBehindFirst k op first))

pub many_read : {goes_on : Word → Type 0} (k : Chain) (op : Lexeme) (tokens rest : List Lexeme) → tokens ≡ op ∷ rest → IsMany k op.word → IsRead (IsManyAt k) goes_on tokens op rest
many_read k op tokens rest here is = record {
  part = op ∷ [];
  split = here;
  spelled = (refl, is);
  only = λ more other after v as_rest same is_form stops. let e : op ∷ more ≡ v ∷ after = same ∙ ap (λ l. l ++ after) is_form.0 in (cc, cc);
}

into_many : (k : Chain) (op : Lexeme) (first v : Expr) (ts front back : List Lexeme) → IsMany k op.word → IsExpr Prim first front → (is : IsBehindFirst k op first v back) → (others : List Expr) → AreOperands others back → v ≡ prefix_of k op first others → ts ≡ op ∷ front ++ back → IsInside v ts
into_many k op first v ts front back is_many is_first is [] none same split = absurd none
into_many k op first v ts front back is_many is_first is (second ∷ others) spelled same split =
    let close = spelled.at_back in
    subst (λ (x : Expr). IsInside x ts) (sym same)
    (subst (λ (l : List Lexeme). IsInside (prefix_of k op first (second ∷ others)) l) (sym (split ∙ ap (λ l. op ∷ front ++ l) (spelled.split ∙ ap (λ l. spelled.front ++ l) close.1.0)))
    (many op close.0 k first second others front spelled.front is_many close.1.1 is_first spelled.at_front))

pub many_makes : (k : Chain) (op : Lexeme) (tokens rest : List Lexeme) → tokens ≡ op ∷ rest → IsMany k op.word → IsOther Minus tokens → Makes (many_parts k) IsInside (λ v. v.1.1) closed tokens
many_makes k op tokens rest here is_many no_minus_next = record {
  into = λ v ts spelled. let later = spelled.at_back in into_many k v.0 v.1.0 v.1.1 ts later.front later.back spelled.at_front.1 later.at_front later.at_back later.at_back.others later.at_back.spelled later.at_back.is
      (spelled.split ∙ ap (λ l. l ++ spelled.back) spelled.at_front.0 ∙ ap (λ l. v.0 ∷ l) later.split);
  back = λ b other after as_tokens spelled stops. back b other after as_tokens spelled;
}
  where
    not_minus : op.word ≡ Minus → ⊥
    not_minus = subst (λ (l : List Lexeme). IsOther Minus l) here no_minus_next

    begins_else : (after : List Lexeme) (ts : List Lexeme) → StartsIn (BeginsAt E) ts → GoesOnAs tokens (ts ++ after) → ⊥
    begins_else after [] starts as_tokens = starts
    begins_else after (u ∷ ts) starts as_tokens = let e : u ≡ op = first_is tokens (u ∷ (ts ++ after)) rest (ts ++ after) op u here as_tokens refl in
        begins_no_many k op.word is_many not_minus (subst (λ (l : Lexeme). BeginsAt E l.word) e starts)

    back : (b : Expr) (other after : List Lexeme) → GoesOnAs tokens (other ++ after) → IsInside b other → (v : Lexeme × (Expr × Expr)) × many_parts k v other × (b ≡ v.1.1)
    back b other after as_tokens (nested right e inside close is) = absurd (begins_else (right ∷ after) inside ((level_begins E).starts e inside is) (subst (λ (l : List Lexeme). GoesOnAs tokens l) (append_assoc inside (right ∷ []) after) as_tokens))
    back b other after as_tokens (many op2 right k2 first second others front behind is_many2 close is_first are) =
        let e : op2 ≡ op = first_is tokens (op2 ∷ (front ++ (behind ++ right ∷ [])) ++ after) rest ((front ++ (behind ++ right ∷ [])) ++ after) op op2 here as_tokens refl in
        let f : k2 ≡ k = same_chain k2 k op2.word op.word (ap (λ (l : Lexeme). l.word) e) is_many2 is_many in
        let joined : many_parts k2 (op2, (first, prefix_of k2 op2 first (second ∷ others))) (op2 ∷ front ++ (behind ++ right ∷ [])) = record {
          front = op2 ∷ [];
          back = front ++ (behind ++ right ∷ []);
          split = refl;
          at_front = (refl, is_many2);
          at_back = record {
            front = front;
            back = behind ++ right ∷ [];
            split = refl;
            at_front = is_first;
            at_back = record { others = second ∷ others; spelled = record { front = behind; back = right ∷ []; split = refl; at_front = are; at_back = (right, (refl, close)) }; is = refl };
          };
        } in
        ((op2, (first, prefix_of k2 op2 first (second ∷ others))), subst (λ (c : Chain). many_parts c (op2, (first, prefix_of k2 op2 first (second ∷ others))) (op2 ∷ front ++ (behind ++ right ∷ []))) f joined, refl)
    back b other after as_tokens (remainder op2 right x y front behind is_op close is_x is_y) =
        let e : op2 ≡ op = first_is tokens (op2 ∷ (front ++ (behind ++ right ∷ [])) ++ after) rest ((front ++ (behind ++ right ∷ [])) ++ after) op op2 here as_tokens refl in
        absurd (many_no_percent k op.word is_many (sym (ap (λ (l : Lexeme). l.word) e) ∙ is_op))
    back b other after as_tokens (inside_compared op2 right rel x y front behind is_op close is_x is_y) =
        let e : op2 ≡ op = first_is tokens (op2 ∷ (front ++ (behind ++ right ∷ [])) ++ after) rest ((front ++ (behind ++ right ∷ [])) ++ after) op op2 here as_tokens refl in
        absurd (many_no_rel k op.word rel is_many (sym (ap (λ (l : Lexeme). l.word) e) ∙ is_op))

-- `%` and two operands
pub percent_makes : (tokens : List Lexeme) → IsNext Percent tokens → Makes (IsWord Percent ⊗ AreTwo) IsInside (λ v. chain_of Product v.1.0 ((v.0, v.1.1) ∷ [])) closed tokens
percent_makes tokens is_next = alternative (other_than Percent) tokens (λ v ts spelled. into v ts spelled) (λ b ts spelled. back b ts spelled) (stops_other_than Percent tokens is_next)
  where
    into : (v : Lexeme × (Expr × Expr)) (ts : List Lexeme) → (IsWord Percent ⊗ AreTwo) v ts → IsInside (chain_of Product v.1.0 ((v.0, v.1.1) ∷ [])) ts
    into v ts spelled = let two = spelled.at_back in let close = two.at_back.at_back in
        subst (λ (l : List Lexeme). IsInside (chain_of Product v.1.0 ((v.0, v.1.1) ∷ [])) l)
        (sym (spelled.split ∙ ap (λ l. l ++ spelled.back) spelled.at_front.0 ∙ ap (λ l. v.0 ∷ l) (two.split ∙ ap (λ l. two.front ++ l) (two.at_back.split ∙ ap (λ l. two.at_back.front ++ l) close.1.0))))
        (remainder v.0 close.0 v.1.0 v.1.1 two.front two.at_back.front spelled.at_front.1 close.1.1 two.at_front two.at_back.at_front)

    back : (b : Expr) (ts : List Lexeme) → IsInside b ts → StartsIn (other_than Percent) ts ⊎ ((v : Lexeme × (Expr × Expr)) × (IsWord Percent ⊗ AreTwo) v ts × (b ≡ chain_of Product v.1.0 ((v.0, v.1.1) ∷ [])))
    back b ts (nested right e inside close is) = inl (starts_append (other_than Percent) inside (right ∷ []) (starts_wider (BeginsAt E) (other_than Percent) inside begins_no_percent ((level_begins E).starts e inside is)))
    back b ts (many op right k first second others front behind is_many close is_first are) = inl (many_no_percent k op.word is_many)
    back b ts (remainder op right x y front behind is_op close is_x is_y) =
        inr ((op, (x, y)), record { front = op ∷ []; back = front ++ (behind ++ right ∷ []); split = refl; at_front = (refl, is_op); at_back = record { front = front; back = behind ++ right ∷ []; split = refl; at_front = is_x; at_back = record { front = behind; back = right ∷ []; split = refl; at_front = is_y; at_back = (right, (refl, close)) } } }, refl)
    back b ts (inside_compared op right rel x y front behind is_op close is_x is_y) = inl (λ e. rel_no_percent rel (sym is_op ∙ e))

-- a comparison and two operands
pub rel_makes : (tokens rest : List Lexeme) (t : Lexeme) (rel : Rel) → tokens ≡ t ∷ rest → t.word ≡ rel_word rel → Makes (IsRelAt ⊗ AreTwo) IsInside (λ v. compare v.0.0.place v.0.1 v.1.0 v.1.1) closed tokens
rel_makes tokens rest t rel here is = alternative IsNoRel tokens (λ v ts spelled. into v ts spelled) (λ b ts spelled. back b ts spelled) (subst (λ (l : List Lexeme). Stops IsNoRel l) (sym here) (λ none. none rel is))
  where
    into : (v : (Lexeme × Rel) × (Expr × Expr)) (ts : List Lexeme) → (IsRelAt ⊗ AreTwo) v ts → IsInside (compare v.0.0.place v.0.1 v.1.0 v.1.1) ts
    into v ts spelled = let two = spelled.at_back in let close = two.at_back.at_back in
        subst (λ (l : List Lexeme). IsInside (compare v.0.0.place v.0.1 v.1.0 v.1.1) l)
        (sym (spelled.split ∙ ap (λ l. l ++ spelled.back) spelled.at_front.0 ∙ ap (λ l. v.0.0 ∷ l) (two.split ∙ ap (λ l. two.front ++ l) (two.at_back.split ∙ ap (λ l. two.at_back.front ++ l) close.1.0))))
        (inside_compared v.0.0 close.0 v.0.1 v.1.0 v.1.1 two.front two.at_back.front spelled.at_front.1 close.1.1 two.at_front two.at_back.at_front)

    back : (b : Expr) (ts : List Lexeme) → IsInside b ts → StartsIn IsNoRel ts ⊎ ((v : (Lexeme × Rel) × (Expr × Expr)) × (IsRelAt ⊗ AreTwo) v ts × (b ≡ compare v.0.0.place v.0.1 v.1.0 v.1.1))
    back b ts (nested right e inside close is) = inl (starts_append IsNoRel inside (right ∷ []) (starts_wider (BeginsAt E) IsNoRel inside begins_no_rel ((level_begins E).starts e inside is)))
    back b ts (many op right k first second others front behind is_many close is_first are) = inl (λ r e. many_no_rel k op.word r is_many e)
    back b ts (remainder op right x y front behind is_op close is_x is_y) = inl (λ r e. rel_no_percent r (sym e ∙ is_op))
    back b ts (inside_compared op right r x y front behind is_op close is_x is_y) =
        inr (((op, r), (x, y)), record { front = op ∷ []; back = front ++ (behind ++ right ∷ []); split = refl; at_front = (refl, is_op); at_back = record { front = front; back = behind ++ right ∷ []; split = refl; at_front = is_x; at_back = record { front = behind; back = right ∷ []; split = refl; at_front = is_y; at_back = (right, (refl, close)) } } }, refl)

-- an expression alone
abbrev IsPrefix : Word → Type 0
IsPrefix w = ((k : Chain) × IsMany k w) ⊎ ((w ≡ Percent) ⊎ ((rel : Rel) × (w ≡ rel_word rel)))

no_prefix : (tokens : List Lexeme) → IsOther Minus tokens → NoMany tokens → IsOther Percent tokens → NoRel tokens → Stops IsPrefix tokens
no_prefix [] no_minus_next none no_percent no_rel = tt
no_prefix (t ∷ ts) no_minus_next none no_percent no_rel = λ h. elim h [
  | inl many_is ↦ no_minus_next (none many_is.0 many_is.1)
  | inr (inl percent) ↦ no_percent percent
  | inr (inr rel) ↦ no_rel rel.0 rel.1
]

pub nested_makes : (tokens : List Lexeme) → IsOther Minus tokens → NoMany tokens → IsOther Percent tokens → NoRel tokens → Makes (IsE ⊗ IsSign RoundClose) IsInside (λ v. v.0) closed tokens
nested_makes tokens no_minus_next none no_percent no_rel = alternative IsPrefix tokens (λ v ts spelled. into v ts spelled) (λ b ts spelled. back b ts spelled) (no_prefix tokens no_minus_next none no_percent no_rel)
  where
    into : (v : Expr × Unit {0}) (ts : List Lexeme) → (IsE ⊗ IsSign RoundClose) v ts → IsInside v.0 ts
    into v ts spelled = let close = spelled.at_back in subst (λ (l : List Lexeme). IsInside v.0 l) (sym (spelled.split ∙ ap (λ l. spelled.front ++ l) close.1.0)) (nested close.0 v.0 spelled.front close.1.1 spelled.at_front)

    back : (b : Expr) (ts : List Lexeme) → IsInside b ts → StartsIn IsPrefix ts ⊎ ((v : Expr × Unit {0}) × (IsE ⊗ IsSign RoundClose) v ts × (b ≡ v.0))
    back b ts (nested right e inside close is) = inr ((e, tt), record { front = inside; back = right ∷ []; split = refl; at_front = is; at_back = (right, (refl, close)) }, refl)
    back b ts (many op right k first second others front behind is_many close is_first are) = inl (inl (k, is_many))
    back b ts (remainder op right x y front behind is_op close is_x is_y) = inl (inr (inl is_op))
    back b ts (inside_compared op right rel x y front behind is_op close is_x is_y) = inl (inr (inr (rel, is_op)))

pub ends_e : Ends (GoesOn E) (IsSign RoundClose) closed
ends_e = ends_starting (IsSign RoundClose) closed (λ w is goes. let e : strength w ≡ 0 = ap strength is in omega arith) (sign_starts RoundClose)

-- Parentheses that begin with `-`.

-- what stands behind the expression that is read from the `-` on: the closing parenthesis, or the operands behind the first one
abbrev pub IsBehindMinus : Expr × List Lexeme → Expr → List Lexeme → Type 0
IsBehindMinus w v ts = ((v ≡ w.0) × sign RoundClose ts) ⊎ ((op : Lexeme) × (inside : List Lexeme) × (first : Expr) × (w.1 ≡ op ∷ inside) × (op.word ≡ Minus) × IsExpr Prim first inside × IsBehindFirst kinds.Sum op first v ts)

-- `-` before one operand
pub record Bared (op : Lexeme) (first : Expr) (inside : List Lexeme) : Type 0 where
  pub whole : Expr
  pub spelled : IsExpr E whole (op ∷ inside)
  pub bare : (more : List Lexeme) → IsBare whole (inside ++ more) first

bared : (op : Lexeme) (first : Expr) (inside : List Lexeme) → op.word ≡ Minus → IsExpr Prim first inside → Bared op first inside
bared op first inside is (constant_number t is_number digits) = record { whole = number op.place (negative (digits_value 10 t.text)); spelled = loosest Unary _ _ (negative_number op t is is_number digits); bare = λ more. (t, more, refl, is_number, digits, refl) }
bared op first inside is (field_name t is_name) = record { whole = minus op.place first; spelled = loosest Unary _ _ (minus_of op first inside is (λ e. let f : Id ≡ Number = sym is_name ∙ e in cc) (field_name t is_name)); bare = λ more. refl }
bared op first inside is (constant_text t values is_text quoted) = record { whole = minus op.place first; spelled = loosest Unary _ _ (minus_of op first inside is (λ e. let f : Quoted ≡ Number = sym is_text ∙ e in cc) (constant_text t values is_text quoted)); bare = λ more. refl }
bared op first inside is (constant_true t is_true) = record { whole = minus op.place first; spelled = loosest Unary _ _ (minus_of op first inside is (λ e. let f : True ≡ Number = sym is_true ∙ e in cc) (constant_true t is_true)); bare = λ more. refl }
bared op first inside is (constant_false t is_false) = record { whole = minus op.place first; spelled = loosest Unary _ _ (minus_of op first inside is (λ e. let f : False ≡ Number = sym is_false ∙ e in cc) (constant_false t is_false)); bare = λ more. refl }
bared op first inside is (brackets left right x within is_left close is_x) = record { whole = minus op.place first; spelled = loosest Unary _ _ (minus_of op first inside is (λ e. let f : RoundOpen ≡ Number = sym is_left ∙ e in cc) (brackets left right x within is_left close is_x)); bare = λ more. refl }
bared op first inside is (many_before left op2 right k a b others front back is_left is_many close is_a are) = record { whole = minus op.place first; spelled = loosest Unary _ _ (minus_of op first inside is (λ e. let f : RoundOpen ≡ Number = sym is_left ∙ e in cc) (many_before left op2 right k a b others front back is_left is_many close is_a are)); bare = λ more. refl }
bared op first inside is (remainder_before left op2 right a b front back is_left is_op close is_a is_b) = record { whole = minus op.place first; spelled = loosest Unary _ _ (minus_of op first inside is (λ e. let f : RoundOpen ≡ Number = sym is_left ∙ e in cc) (remainder_before left op2 right a b front back is_left is_op close is_a is_b)); bare = λ more. refl }
bared op first inside is (compared_before left op2 right rel a b front back is_left is_op close is_a is_b) = record { whole = minus op.place first; spelled = loosest Unary _ _ (minus_of op first inside is (λ e. let f : RoundOpen ≡ Number = sym is_left ∙ e in cc) (compared_before left op2 right rel a b front back is_left is_op close is_a is_b)); bare = λ more. refl }

abbrev pub minus_parts : (Expr × List Lexeme) × Expr → List Lexeme → Type 0
minus_parts = Chained (Spelled IsE) IsBehindMinus

pub behind_minus_makes : (tokens : List Lexeme) → IsNext Minus tokens → Makes minus_parts IsInside (λ v. v.1) closed tokens
behind_minus_makes tokens is_next = alternative (other_than Minus) tokens (λ v ts spelled. into v.0 v.1 ts spelled) (λ b ts spelled. back b ts spelled) (stops_other_than Minus tokens is_next)
  where
    into : (w : Expr × List Lexeme) (v : Expr) (ts : List Lexeme) → (Spelled IsE w ⌢ IsBehindMinus w v) ts → IsInside v ts
    into w v ts spelled = elim spelled.at_back [
      | inl end ↦ let close = end.1 in subst (λ (x : Expr). IsInside x ts) (sym end.0) (subst (λ (l : List Lexeme). IsInside w.0 l) (sym (spelled.split ∙ ap (λ l. spelled.front ++ l) close.1.0)) (nested close.0 w.0 spelled.front close.1.1 spelled.at_front.0))
      | inr more ↦ into_many kinds.Sum more.0 more.2 v ts more.1 spelled.back (inr more.4) more.5 more.6 more.6.others more.6.spelled more.6.is (spelled.split ∙ ap (λ l. l ++ spelled.back) (sym spelled.at_front.1 ∙ more.3))
    ]

    other_sign : (k : Chain) (w : Word) → IsMany k w → (w ≡ Minus) ⊎ (w ≡ Minus → ⊥)
    other_sign Disjunction w is = inr (λ e. let f : Or ≡ Minus = sym is ∙ e in cc)
    other_sign Conjunction w is = inr (λ e. let f : And ≡ Minus = sym is ∙ e in cc)
    other_sign kinds.Sum w (inl is) = inr (λ e. let f : Plus ≡ Minus = sym is ∙ e in cc)
    other_sign kinds.Sum w (inr is) = inl is
    other_sign Product w is = inr (λ e. let f : Star ≡ Minus = sym is ∙ e in cc)

    subtracted : (k : Chain) (op right : Lexeme) (first second : Expr) (others : List Expr) (front behind : List Lexeme) → IsMany k op.word → op.word ≡ Minus → right.word ≡ RoundClose → IsExpr Prim first front → ArePrims (second ∷ others) behind
        → (v : (Expr × List Lexeme) × Expr) × minus_parts v (op ∷ front ++ (behind ++ right ∷ [])) × (prefix_of k op first (second ∷ others) ≡ v.1)
    subtracted k op right first second others front behind is_many is_minus close is_first are =
        let e : k ≡ kinds.Sum = same_chain k kinds.Sum op.word op.word refl is_many (inr is_minus) in
        let b = bared op first front is_minus is_first in (
          ((b.whole, op ∷ front), prefix_of kinds.Sum op first (second ∷ others)),
          record {
            front = op ∷ front;
            back = behind ++ right ∷ [];
            split = refl;
            at_front = (b.spelled, refl);
            at_back = inr (op, front, first, refl, is_minus, is_first, record { others = second ∷ others; spelled = record { front = behind; back = right ∷ []; split = refl; at_front = are; at_back = (right, (refl, close)) }; is = refl });
          },
          ap (λ c. prefix_of c op first (second ∷ others)) e,
        )

    back : (b : Expr) (ts : List Lexeme) → IsInside b ts → StartsIn (other_than Minus) ts ⊎ ((v : (Expr × List Lexeme) × Expr) × minus_parts v ts × (b ≡ v.1))
    back b ts (nested right e inside close is) = inr (((e, inside), e), record { front = inside; back = right ∷ []; split = refl; at_front = (is, refl); at_back = inl (refl, (right, (refl, close))) }, refl)
    back b ts (many op right k first second others front behind is_many close is_first are) = elim (other_sign k op.word is_many) [
      | inl is_minus ↦ inr (subtracted k op right first second others front behind is_many is_minus close is_first are)
      | inr other ↦ inl other
    ]
    back b ts (remainder op right x y front behind is_op close is_x is_y) = inl (λ e. let f : Percent ≡ Minus = sym is_op ∙ e in cc)
    back b ts (inside_compared op right rel x y front behind is_op close is_x is_y) = inl (λ e. rel_no_minus op.word e rel is_op)

primary_is_no_sign : (w : Word) → BeginsAt Prim w → strength w ≡ 0
primary_is_no_sign Or begins = absurd (omega arith)
primary_is_no_sign And begins = absurd (omega arith)
primary_is_no_sign Equal begins = absurd (omega arith)
primary_is_no_sign NotEqual begins = absurd (omega arith)
primary_is_no_sign Less begins = absurd (omega arith)
primary_is_no_sign AtMost begins = absurd (omega arith)
primary_is_no_sign Greater begins = absurd (omega arith)
primary_is_no_sign AtLeast begins = absurd (omega arith)
primary_is_no_sign Plus begins = absurd (omega arith)
primary_is_no_sign Minus begins = absurd (omega arith)
primary_is_no_sign Star begins = absurd (omega arith)
primary_is_no_sign Percent begins = absurd (omega arith)
primary_is_no_sign w begins = refl

pub primary_ends : (w : Word) → BeginsAt Prim w → GoesOn E w → ⊥
primary_ends w begins goes = let e = primary_is_no_sign w begins in omega arith

operands_start : (others : List Expr) (ts : List Lexeme) → AreOperands others ts → StartsPrimary ts
operands_start [] ts none = absurd none
operands_start (second ∷ others) ts spelled = subst (λ (l : List Lexeme). StartsPrimary l) (sym spelled.split) (starts_append (BeginsAt Prim) spelled.front spelled.back (first second others spelled.front (prims_are (second ∷ others) spelled.front spelled.at_front)))
  where
    first : (second : Expr) (others : List Expr) (l : List Lexeme) → Many (IsExpr Prim) (second ∷ others) l → StartsPrimary l
    first second others l joined = starts_joined (BeginsAt Prim) (IsExpr Prim second) (Many (IsExpr Prim) others) l ((level_begins Prim).starts second) joined

ends_minus : (w : Expr × List Lexeme) → Ends (GoesOn E) (IsBehindMinus w) closed
ends_minus w v other after spelled stops = elim spelled [
  | inl end ↦ stops_of (λ u. u ≡ RoundClose) (GoesOn E) (other ++ after) (λ u is goes. let e : strength u ≡ 0 = ap strength is in omega arith) (starts_append (λ u. u ≡ RoundClose) other after ((sign_starts RoundClose).starts tt other end.1))
  | inr more ↦ stops_of (BeginsAt Prim) (GoesOn E) (other ++ after) primary_ends (starts_append (BeginsAt Prim) other after (operands_start more.6.others other more.6.spelled))
]

sample_behind_minus : (w : Expr × List Lexeme) → HasSample (IsBehindMinus w)
sample_behind_minus w = let s = sample_sign RoundClose in record { value = w.0; tokens = s.tokens; spelled = inl (refl, s.spelled) }

-- an expression that is `-` before one operand, or a number
abbrev IsAlone : Expr → Type 0
IsAlone (minus place e) = Unit {0}
IsAlone (number place n) = Unit {0}
IsAlone (field place t) = ⊥
IsAlone (text place t) = ⊥
IsAlone (truth place b) = ⊥
IsAlone (negation place e) = ⊥
IsAlone (compare place rel a b) = ⊥
IsAlone (chain k place parts) = ⊥

bare_alone : (e : Expr) (behind : List Lexeme) (f : Expr) → IsBare e behind f → IsAlone e
bare_alone (minus place e) behind f bare = tt
bare_alone (number place n) behind f bare = tt
bare_alone (field place t) behind f bare = bare
bare_alone (text place t) behind f bare = bare
bare_alone (truth place b) behind f bare = bare
bare_alone (negation place e) behind f bare = bare
bare_alone (compare place rel a b) behind f bare = bare
bare_alone (chain k place parts) behind f bare = bare

-- the first operand of a chain that is `-` before one operand, or a number, is the whole
more_alone : (k : Chain) (first : Expr) (more : List (Lexeme × Expr)) (front back : List Lexeme) → AreMore k more back → IsAlone (chain_of k first more) → (front ++ back ≡ front) × (chain_of k first more ≡ first)
more_alone k first more front back (no_more _) alone = (append-nil front, refl)
more_alone k first more front back (one_more _ s x later f b is_sign is are) alone = absurd alone

starts_front : (words : Word → Type 0) (front back : List Lexeme) → front ++ back ≡ front → StartsIn words (front ++ back) → StartsIn words front
starts_front words front back same starts = subst (λ (l : List Lexeme). StartsIn words l) same starts

by_chain : (k : Chain) (first : Expr) (more : List (Lexeme × Expr)) (front back : List Lexeme) → AreMore k more back → StartsIn (λ w. w ≡ Minus) (front ++ back) → IsAlone (chain_of k first more)
    → (StartsIn (λ w. w ≡ Minus) front → IsAlone first → IsExpr Unary first front) → IsExpr Unary (chain_of k first more) (front ++ back)
by_chain k first more front back are starts alone unary =
    let same = more_alone k first more front back are alone in
    let one : IsExpr Unary first front = unary (starts_front (λ w. w ≡ Minus) front back same.0 starts) (subst (λ (x : Expr). IsAlone x) same.1 alone) in
    subst (λ (x : Expr). IsExpr Unary x (front ++ back)) (sym same.1) (subst (λ (l : List Lexeme). IsExpr Unary first l) (sym same.0) one)

alone_unary : (level : Level) (e : Expr) (ts : List Lexeme) → IsExpr level e ts → StartsIn (λ w. w ≡ Minus) ts → IsAlone e → IsExpr Unary e ts
alone_unary level e ts (disjunction first more front back is are) starts alone = by_chain Disjunction first more front back are starts alone (alone_unary Conj first front is)
alone_unary level e ts (conjunction first more front back is are) starts alone = by_chain Conjunction first more front back are starts alone (alone_unary Neg first front is)
alone_unary level e ts (negated t x inside is_not is) starts alone = absurd alone
alone_unary level e ts (not_negated x inside is) starts alone = alone_unary Cmp x inside is starts alone
alone_unary level e ts (compared s rel a b front back is_rel is_a is_b) starts alone = absurd alone
alone_unary level e ts (not_compared x inside is) starts alone = alone_unary Sum x inside is starts alone
alone_unary level e ts (sum first more front back is are) starts alone = by_chain kinds.Sum first more front back are starts alone (alone_unary Prod first front is)
alone_unary level e ts (product first more front back is are) starts alone = by_chain Product first more front back are starts alone (alone_unary Unary first front is)
alone_unary level e ts (negative_number s digits a b c) starts alone = negative_number s digits a b c
alone_unary level e ts (minus_of s x inside a b c) starts alone = minus_of s x inside a b c
alone_unary level e ts (no_minus x inside is) starts alone = no_minus x inside is
alone_unary level e ts (field_name t is) starts alone = absurd alone
alone_unary level e ts (constant_number t is digits) starts alone = let f : Number ≡ Minus = sym is ∙ starts in absurd (cc)
alone_unary level e ts (constant_text t values is quoted) starts alone = absurd alone
alone_unary level e ts (constant_true t is) starts alone = absurd alone
alone_unary level e ts (constant_false t is) starts alone = absurd alone
alone_unary level e ts (brackets left right x inside is close is_x) starts alone = let f : RoundOpen ≡ Minus = sym is ∙ starts in absurd (cc)
alone_unary level e ts (many_before left op right k first second others front back is is_many close is_first are) starts alone = let f : RoundOpen ≡ Minus = sym is ∙ starts in absurd (cc)
alone_unary level e ts (remainder_before left op right a b front back is is_op close is_a is_b) starts alone = let f : RoundOpen ≡ Minus = sym is ∙ starts in absurd (cc)
alone_unary level e ts (compared_before left op right rel a b front back is is_op close is_a is_b) starts alone = let f : RoundOpen ≡ Minus = sym is ∙ starts in absurd (cc)

-- its operand is what stands behind the `-`
bare_inside : (e : Expr) (ts : List Lexeme) → IsExpr Unary e ts → (s : Lexeme) (inside behind rest : List Lexeme) (f : Expr) → ts ≡ s ∷ inside → s.word ≡ Minus → behind ≡ inside ++ rest → IsBare e behind f → IsExpr Prim f inside
bare_inside e ts (negative_number s2 t a b digits) s inside behind rest f split is after bare =
    let h : inside ≡ t ∷ [] = cc in
    let i : bare.0 ∷ bare.1 ≡ t ∷ rest = sym bare.2 ∙ after ∙ ap (λ l. l ++ rest) h in
    let j : bare.0 ≡ t = cc in
    subst (λ (x : Expr). IsExpr Prim x inside) (sym (bare.5 ∙ ap (λ (l : Lexeme). number l.place (pos (digits_value 10 l.text))) j)) (subst (λ (l : List Lexeme). IsExpr Prim (number t.place (pos (digits_value 10 t.text))) l) (sym h) (constant_number t b digits))
bare_inside e ts (minus_of s2 x within a b c) s inside behind rest f split is after bare =
    let h : within ≡ inside = cc in subst (λ (y : Expr). IsExpr Prim y inside) (sym bare) (subst (λ (l : List Lexeme). IsExpr Prim x l) h c)
bare_inside e ts (no_minus x within c) s inside behind rest f split is after bare =
    let h : StartsIn (BeginsAt Prim) (s ∷ inside) = subst (λ (l : List Lexeme). StartsIn (BeginsAt Prim) l) split ((level_begins Prim).starts x within c) in
    let i : rank Prim < reach Minus = subst (λ (w : Word). BeginsAt Prim w) is h in absurd (omega arith)

same_bare : (e : Expr) (behind : List Lexeme) (f g : Expr) → IsBare e behind f → IsBare e behind g → f ≡ g
same_bare (minus place e) behind f g a b = a ∙ sym b
same_bare (number place n) behind f g a b =
    let h : a.0 ∷ a.1 ≡ b.0 ∷ b.1 = sym a.2 ∙ b.2 in let i : a.0 ≡ b.0 = cc in a.5 ∙ ap (λ (l : Lexeme). number l.place (pos (digits_value 10 l.text))) i ∙ sym b.5
same_bare (field place t) behind f g a b = absurd a
same_bare (text place t) behind f g a b = absurd a
same_bare (truth place v) behind f g a b = absurd a
same_bare (negation place e) behind f g a b = absurd a
same_bare (compare place rel x y) behind f g a b = absurd a
same_bare (chain k place parts) behind f g a b = absurd a

as_itself : (ts : List Lexeme) → GoesOnAs ts ts
as_itself [] = refl
as_itself (t ∷ ts) = (ts, refl)

-- what was read from the `-` on
pub record IsFromMinus (e : Expr) (tokens behind rest : List Lexeme) (s : Lexeme) : Type 0 where
  pub read : IsRead IsE (GoesOn E) tokens e rest
  pub here : tokens ≡ s ∷ behind
  pub word : s.word ≡ Minus

record Opened (e : Expr) (part behind rest : List Lexeme) (s : Lexeme) : Type 0 where
  inside : List Lexeme
  split : part ≡ s ∷ inside
  after : behind ≡ inside ++ rest

opened_part : (part tokens behind rest : List Lexeme) (s : Lexeme) (e : Expr) → IsE e part → tokens ≡ part ++ rest → tokens ≡ s ∷ behind → Opened e part behind rest s
opened_part [] tokens behind rest s e is split here = absurd ((level_begins E).starts e [] is)
opened_part (t ∷ inside) tokens behind rest s e is split here =
    let f : t ∷ (inside ++ rest) ≡ s ∷ behind = sym split ∙ here in record { inside = inside; split = (let g : t ≡ s = cc in ap (λ (x : Lexeme). x ∷ inside) g); after = cc }

opened : {e : Expr} {tokens behind rest : List Lexeme} {s : Lexeme} (from : IsFromMinus e tokens behind rest s) → Opened e from.read.part behind rest s
opened {e} {tokens} {behind} {rest} {s} from = opened_part from.read.part tokens behind rest s e from.read.spelled from.read.split from.here

-- another operand behind the `-` is one by which the expression is `-` before one operand
other_bare : {e : Expr} {tokens behind rest : List Lexeme} {s : Lexeme} (from : IsFromMinus e tokens behind rest s) → StartsPrimary rest → (op : Lexeme) (inside : List Lexeme) (first : Expr) → from.read.part ≡ op ∷ inside → op.word ≡ Minus → IsExpr Prim first inside → IsBare e behind first
other_bare {e} {tokens} {behind} {rest} {s} from starts op inside first split is prim =
    let b = bared op first inside is prim in
    let whole_is = (from.read.only rest (op ∷ inside) rest b.whole (as_itself rest) (ap (λ l. l ++ rest) split) b.spelled (stops_of (BeginsAt Prim) (GoesOn E) rest primary_ends starts)).0 in
    let o = opened from in
    let f : s ∷ o.inside ≡ op ∷ inside = sym o.split ∙ split in
    let g : o.inside ≡ inside = cc in
    subst (λ (x : Expr). IsBare x behind first) whole_is (subst (λ (l : List Lexeme). IsBare b.whole l first) (sym (o.after ∙ ap (λ l. l ++ rest) g)) (b.bare rest))

starts_back : (words : Word → Type 0) (tokens more : List Lexeme) → GoesOnAs tokens more → StartsIn words more → StartsIn words tokens
starts_back words [] more as_tokens starts = subst (λ (l : List Lexeme). StartsIn words l) as_tokens starts
starts_back words (t ∷ ts) more as_tokens starts = subst (λ (l : List Lexeme). StartsIn words l) as_tokens.1 starts

no_close_primary : (ts : List Lexeme) → StartsPrimary ts → StartsIn (λ w. w ≡ RoundClose) ts → ⊥
no_close_primary [] starts close = starts
no_close_primary (t ∷ ts) starts close = prim_no_close t.word starts close

further_behind : {e f : Expr} {tokens behind rest : List Lexeme} {s : Lexeme} (from : IsFromMinus e tokens behind rest s) → IsUnsigned e behind f rest → Makes (IsBehindFirst kinds.Sum s f) (IsBehindMinus (e, from.read.part)) (λ v. v) closed rest
further_behind {e} {f} {tokens} {behind} {rest} {s} from bare = record {
  into = λ v ts spelled. inr (s, o.inside, f, o.split, from.word, prim, spelled);
  back = λ b other after as_rest spelled stops. elim spelled [
    | inl end ↦ absurd (no_close_primary (other ++ after) (starts_as (BeginsAt Prim) rest (other ++ after) bare.more as_rest) (starts_append (λ w. w ≡ RoundClose) other after ((sign_starts RoundClose).starts tt other end.1)))
    | inr more ↦ (b, again b other more.0 more.1 more.2 more.3 more.4 more.5 more.6, refl)
  ];
}
  where
    o : Opened e from.read.part behind rest s
    o = opened from

    prim : IsExpr Prim f o.inside
    prim = bare_inside e from.read.part (alone_unary E e from.read.part from.read.spelled (subst (λ (l : List Lexeme). StartsIn (λ w. w ≡ Minus) l) (sym o.split) from.word) (bare_alone e behind f bare.bare)) s o.inside behind rest f o.split from.word o.after bare.bare

    again : (b : Expr) (other : List Lexeme) (op : Lexeme) (inside : List Lexeme) (first : Expr) → from.read.part ≡ op ∷ inside → op.word ≡ Minus → IsExpr Prim first inside → IsBehindFirst kinds.Sum op first b other → IsBehindFirst kinds.Sum s f b other
    again b other op inside first split is prim2 spelled =
        let g : s ∷ o.inside ≡ op ∷ inside = sym o.split ∙ split in
        let h : op ≡ s = cc in
        let i : first ≡ f = same_bare e behind first f (other_bare from bare.more op inside first split is prim2) bare.bare in
        subst (λ (x : Lexeme). IsBehindFirst kinds.Sum x f b other) h (subst (λ (x : Expr). IsBehindFirst kinds.Sum op x b other) i spelled)

close_behind : {e same : Expr} {tokens behind rest : List Lexeme} {s : Lexeme} (from : IsFromMinus e tokens behind rest s) → IsWhole e behind same rest → Makes (IsSign RoundClose) (IsBehindMinus (e, from.read.part)) (λ _. e) closed rest
close_behind {e} {same} {tokens} {behind} {rest} {s} from whole = record {
  into = λ _ ts is. inl (refl, is);
  back = λ b other after as_rest spelled stops. elim spelled [
    | inl end ↦ (tt, end.1, end.0)
    | inr more ↦ absurd (none (starts_back (BeginsAt Prim) rest (other ++ after) as_rest (starts_append (BeginsAt Prim) other after (operands_start more.6.others other more.6.spelled))) more.0 more.1 more.2 more.3 more.4 more.5)
  ];
}
  where
    none : StartsPrimary rest → (op : Lexeme) (inside : List Lexeme) (first : Expr) → from.read.part ≡ op ∷ inside → op.word ≡ Minus → IsExpr Prim first inside → ⊥
    none starts op inside first split is prim = elim whole.why [
      | inl not_bare ↦ not_bare first (other_bare from starts op inside first split is prim)
      | inr no_primary ↦ starts_stops (BeginsAt Prim) rest starts no_primary
    ]

pub minus_whole_fails : (tokens : List Lexeme) (bad : Option (List Lexeme)) → IsNext Minus tokens → Fails IsE (GoesOn E) tokens bad → Fails IsInside closed tokens bad
minus_whole_fails tokens bad is_next fails = as_fails bad (behind_minus_makes tokens is_next) (chained_first_fails bad ends_minus sample_behind_minus (spelled_fails bad fails))

minus_next : {e : Expr} {tokens behind rest : List Lexeme} {s : Lexeme} → IsFromMinus e tokens behind rest s → IsNext Minus tokens
minus_next {tokens = tokens} {behind = behind} {s = s} from = next_of Minus s tokens behind from.here from.word

pub minus_further_fails : {e f : Expr} {tokens behind rest : List Lexeme} {s : Lexeme} (bad : Option (List Lexeme)) → IsFromMinus e tokens behind rest s → IsUnsigned e behind f rest → Fails (IsBehindFirst kinds.Sum s f) closed rest bad → Fails IsInside closed tokens bad
minus_further_fails {tokens = tokens} bad from bare fails = as_fails bad (behind_minus_makes tokens (minus_next from)) (chained_fails bad ends_minus (spelled_read from.read) (as_fails bad (further_behind from bare) fails))

pub minus_further_read : {e f v : Expr} {tokens behind rest end : List Lexeme} {s : Lexeme} → IsFromMinus e tokens behind rest s → IsUnsigned e behind f rest → IsRead (IsBehindFirst kinds.Sum s f) closed rest v end → IsRead IsInside closed tokens v end
minus_further_read {tokens = tokens} from bare read = as_read (behind_minus_makes tokens (minus_next from)) (chained_read ends_minus (spelled_read from.read) (as_read (further_behind from bare) read))

pub minus_close_fails : {e same : Expr} {tokens behind rest : List Lexeme} {s : Lexeme} (bad : Option (List Lexeme)) → IsFromMinus e tokens behind rest s → IsWhole e behind same rest → Fails (IsSign RoundClose) closed rest bad → Fails IsInside closed tokens bad
minus_close_fails {tokens = tokens} bad from whole fails = as_fails bad (behind_minus_makes tokens (minus_next from)) (chained_fails bad ends_minus (spelled_read from.read) (as_fails bad (close_behind from whole) fails))

pub minus_close_read : {e same : Expr} {tokens behind rest end : List Lexeme} {s : Lexeme} → IsFromMinus e tokens behind rest s → IsWhole e behind same rest → IsRead (IsSign RoundClose) closed rest tt end → IsRead IsInside closed tokens same end
minus_close_read {e} {same} {tokens} {end = end} from whole read = subst (λ (x : Expr). IsRead IsInside closed tokens x end) (sym whole.is) (as_read (behind_minus_makes tokens (minus_next from)) (chained_read ends_minus (spelled_read from.read) (as_read (close_behind from whole) read)))

-- The opening parenthesis before them is read, too.
pub in_brackets : {X : Type 0} (tokens middle rest : List Lexeme) (t : Lexeme) (view : X → Expr) (r : Result X Stop) → tokens ≡ t ∷ middle → t.word ≡ RoundOpen → Reads IsInside closed middle rest view r → Reads (IsExpr Prim) closed tokens rest view r
in_brackets tokens middle rest t view r here is reads =
    let makes = open_makes tokens (next_of RoundOpen t tokens middle here is) in let read = word_read RoundOpen t tokens middle here is in
    reads_whole tokens middle rest view view r reads (λ x inside. as_read makes (then_read (ends_closed _ _) read inside)) (λ bad fails. as_fails bad makes (then_fails bad (ends_closed _ _) read fails))
