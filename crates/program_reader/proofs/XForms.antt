-- Of what expressions of languages, transformations and trees are made.
use Rattle.std.proofs.Common.{◌≡◌, List, [], ◌∷◌, ◌++◌, refl, sym, ap, ◌∙◌, subst, Option, Some, None, ◌⊎◌, inl, inr}
use Rattle.model_program.specs.declared.Word.{Word}
use Rattle.model_program.specs.declared.Word.TheVariants.{Id, RoundOpen, RoundClose, Comma, Minus}
use Rattle.model_program.specs.declared.Word.TheVariants as word
use Rattle.model_program.specs.Lexeme.{Lexeme}
use Rattle.model_program.specs.Syntax.{Name}
use Rattle.model_program.specs.Joined.{◌⌢◌, IsNext, IsOther, ◌⊗◌}
use Rattle.read_forms.specs.Reads.{IsRead, StartsIn, Stops, closed}
use Rattle.model_program.specs.Grammar.{IsSign, sign, IsName, Many}
use Rattle.read_forms.specs.Parts.{HasSample, AllStartIn, other_than}
use Rattle.read_forms.proofs.Forms.{Makes, sample_as, sample_pair, alternative, ends_closed, starts_joined, starts_wider, stops_other, stops_other_than}
use Rattle.model_grammar.specs.declared.Op1.{Op1}
use Rattle.model_grammar.specs.declared.Op1.TheVariants as one_of
use Rattle.model_grammar.specs.declared.Op2.{Op2}
use Rattle.model_grammar.specs.declared.Op2.TheVariants as two_of
use Rattle.model_grammar.specs.Operators.{op1_word, op2_word}
use Rattle.model_grammar.specs.Syntax.{Expr, X, named, one, two, literal, Xs, no_x, and_x, xs_of}
use Rattle.model_grammar.specs.Terms.{AreLabels, IsX, name, on_one, on_two, new, AreXs, no_more, one_more}
use Rattle.label_reader.proofs.Names.{sample_name, name_starts}
use Rattle.label_reader.specs.declared.lists.Between.TheVariants as gap
use Rattle.label_reader.specs.Lists.{IsItem, closing_of}
use Rattle.label_reader.proofs.Listed.{starting_item}
use Rattle.label_reader.proofs.Closings.{IsClosable, sample_to_close}
use Rattle.program_reader.specs.Operations.{IsNoOp1, IsNoOp2, NoOp1, NoOp2}
use Rattle.program_reader.specs.Nodes.{AreXsToClose, IsXInside}
use Rattle.program_reader.specs.Nodes as inside
use Rattle.program_reader.proofs.RowForms.{sample_labels}

-- Operations.

op1_in : Word → Option Op1
op1_in word.Complement = Some one_of.Complement
op1_in word.Minimize = Some one_of.Minimize
op1_in word.Domain = Some one_of.Domain
op1_in word.GetWitness = Some one_of.GetWitness
op1_in _ = None

op1_is : (op : Op1) → op1_in (op1_word op) ≡ Some op
unfolding op1_in
op1_is one_of.Complement = refl
op1_is one_of.Minimize = refl
op1_is one_of.Domain = refl
op1_is one_of.GetWitness = refl

op2_in : Word → Option Op2
op2_in word.Intersect = Some two_of.Intersect
op2_in word.Union = Some two_of.Union
op2_in word.Difference = Some two_of.Difference
op2_in word.PreImage = Some two_of.PreImage
op2_in word.Compose = Some two_of.Compose
op2_in word.Restrict = Some two_of.Restrict
op2_in word.RestrictOut = Some two_of.RestrictOut
op2_in word.Apply = Some two_of.Apply
op2_in _ = None

op2_is : (op : Op2) → op2_in (op2_word op) ≡ Some op
unfolding op2_in
op2_is two_of.Intersect = refl
op2_is two_of.Union = refl
op2_is two_of.Difference = refl
op2_is two_of.PreImage = refl
op2_is two_of.Compose = refl
op2_is two_of.Restrict = refl
op2_is two_of.RestrictOut = refl
op2_is two_of.Apply = refl

op1_no_op2 : (op : Op1) → op2_in (op1_word op) ≡ None
unfolding op2_in
op1_no_op2 one_of.Complement = refl
op1_no_op2 one_of.Minimize = refl
op1_no_op2 one_of.Domain = refl
op1_no_op2 one_of.GetWitness = refl

id_no_op1 : op1_in Id ≡ None
unfolding op1_in
id_no_op1 = refl

id_no_op2 : op2_in Id ≡ None
unfolding op2_in
id_no_op2 = refl

apart_ops : (a : Op1) (b : Op2) (w : Word) → w ≡ op1_word a → w ≡ op2_word b → ⊥
apart_ops a b w is_a is_b = let e : None ≡ Some b = sym (op1_no_op2 a) ∙ ap op2_in (sym is_a ∙ is_b) ∙ op2_is b in cc

id_apart_op1 : (a : Op1) (w : Word) → w ≡ Id → w ≡ op1_word a → ⊥
id_apart_op1 a w is is_a = let e : None ≡ Some a = sym id_no_op1 ∙ ap op1_in (sym is ∙ is_a) ∙ op1_is a in cc

id_apart_op2 : (b : Op2) (w : Word) → w ≡ Id → w ≡ op2_word b → ⊥
id_apart_op2 b w is is_b = let e : None ≡ Some b = sym id_no_op2 ∙ ap op2_in (sym is ∙ is_b) ∙ op2_is b in cc

-- an operation's token
abbrev pub IsOp1At : Lexeme × Op1 → List Lexeme → Type 0
IsOp1At v tokens = (tokens ≡ v.0 ∷ []) × (v.0.word ≡ op1_word v.1)

abbrev pub IsOp2At : Lexeme × Op2 → List Lexeme → Type 0
IsOp2At v tokens = (tokens ≡ v.0 ∷ []) × (v.0.word ≡ op2_word v.1)

pub op1_read : {goes_on : Word → Type 0} (tokens rest : List Lexeme) (t : Lexeme) (op : Op1) → tokens ≡ t ∷ rest → t.word ≡ op1_word op → IsRead IsOp1At goes_on tokens (t, op) rest
op1_read tokens rest t op here is = record {
  part = t ∷ [];
  split = here;
  spelled = (refl, is);
  only = λ more other after v as_rest same is_form stops.
      let e : t ∷ more ≡ v.0 ∷ after = same ∙ ap (λ l. l ++ after) is_form.0 in
      let f : v.0 ≡ t = cc in
      let g : Some v.1 ≡ Some op = sym (op1_is v.1) ∙ ap op1_in (sym is_form.1 ∙ ap (λ (l : Lexeme). l.word) f ∙ is) ∙ op1_is op in
      let h : v.1 ≡ op = cc in
      let both : v ≡ (t, op) = λ i. (f i, h i) in
      (both, cc);
}

pub op2_read : {goes_on : Word → Type 0} (tokens rest : List Lexeme) (t : Lexeme) (op : Op2) → tokens ≡ t ∷ rest → t.word ≡ op2_word op → IsRead IsOp2At goes_on tokens (t, op) rest
op2_read tokens rest t op here is = record {
  part = t ∷ [];
  split = here;
  spelled = (refl, is);
  only = λ more other after v as_rest same is_form stops.
      let e : t ∷ more ≡ v.0 ∷ after = same ∙ ap (λ l. l ++ after) is_form.0 in
      let f : v.0 ≡ t = cc in
      let g : Some v.1 ≡ Some op = sym (op2_is v.1) ∙ ap op2_in (sym is_form.1 ∙ ap (λ (l : Lexeme). l.word) f ∙ is) ∙ op2_is op in
      let h : v.1 ≡ op = cc in
      let both : v ≡ (t, op) = λ i. (f i, h i) in
      (both, cc);
}

-- Names and parentheses.

pub named_makes : (tokens : List Lexeme) → IsNext Id tokens → Makes IsName IsX named closed tokens
named_makes tokens is_next = alternative (other_than Id) tokens (λ n ts spelled. name n ts spelled) (λ b ts spelled. back b ts spelled) (stops_other_than Id tokens is_next)
  where
    back : (b : X) (ts : List Lexeme) → IsX b ts → StartsIn (other_than Id) ts ⊎ ((n : Name) × IsName n ts × (b ≡ named n))
    back b ts (name n tokens2 is) = inr (n, is, refl)
    back b ts (on_one left op right kind x within is is_op close is_x) = inl (λ e. let f : RoundOpen ≡ Id = sym is ∙ e in cc)
    back b ts (on_two left op right kind x y front behind is is_op close is_x is_y) = inl (λ e. let f : RoundOpen ≡ Id = sym is ∙ e in cc)
    back b ts (new left right n labels xs head row children is close is_n are_labels are) = inl (λ e. let f : RoundOpen ≡ Id = sym is ∙ e in cc)

are_xs : (xs : List X) (ts : List Lexeme) → Many IsX xs ts → AreXs (xs_of xs) ts
are_xs [] ts none = subst (λ (l : List Lexeme). AreXs no_x l) (sym none) no_more
are_xs (x ∷ xs) ts joined = subst (λ (l : List Lexeme). AreXs (and_x x (xs_of xs)) l) (sym joined.split) (one_more x (xs_of xs) joined.front joined.back joined.at_front (are_xs xs joined.back joined.at_back))

-- a row of expressions as a list
record XList (xs : Xs) (ts : List Lexeme) : Type 0 where
  list : List X
  is : xs ≡ xs_of list
  spelled : Many IsX list ts

xs_are : (xs : Xs) (ts : List Lexeme) → AreXs xs ts → XList xs ts
xs_are xs ts no_more = record { list = []; is = refl; spelled = refl }
xs_are xs ts (one_more x more front back is are) = let later = xs_are more back are in
    record { list = x ∷ later.list; is = ap (λ l. and_x x l) later.is; spelled = record { front = front; back = back; split = refl; at_front = is; at_back = later.spelled } }

put_open : (left : Lexeme) (x : X) (ts : List Lexeme) → left.word ≡ RoundOpen → IsXInside x ts → IsX x (left ∷ ts)
put_open left x ts is (inside.on_one op kind y within is_op joined) = let right = joined.at_back in
    subst (λ (l : List Lexeme). IsX (one kind op.place y) (left ∷ op ∷ l)) (sym (joined.split ∙ ap (λ l. joined.front ++ l) right.1.0)) (on_one left op right.0 kind y joined.front is is_op right.1.1 joined.at_front)
put_open left x ts is (inside.on_two op kind y z within is_op joined) = let later = joined.at_back in let right = later.at_back in
    subst (λ (l : List Lexeme). IsX (two kind op.place y z) (left ∷ op ∷ l)) (sym (joined.split ∙ ap (λ l. joined.front ++ l) (later.split ∙ ap (λ l. later.front ++ l) right.1.0)))
    (on_two left op right.0 kind y z joined.front later.front is is_op right.1.1 joined.at_front later.at_front)
put_open left x ts is (inside.new n labels xs within joined) = let row = joined.at_back in let children = row.at_back in let right = children.at_back in
    subst (λ (l : List Lexeme). IsX (literal n labels (xs_of xs)) (left ∷ l)) (sym (joined.split ∙ ap (λ l. joined.front ++ l) (row.split ∙ ap (λ l. row.front ++ l) (children.split ∙ ap (λ l. children.front ++ l) right.1.0))))
    (new left right.0 n labels (xs_of xs) joined.front row.front children.front is right.1.1 joined.at_front row.at_front (are_xs xs children.front children.at_front))

pub open_makes : (tokens : List Lexeme) → IsOther Id tokens → Makes (IsSign RoundOpen ⊗ IsXInside) IsX (λ v. v.1) closed tokens
open_makes tokens is_other = alternative (λ w. w ≡ Id) tokens (λ v ts spelled. into v.1 ts spelled) (λ b ts spelled. back b ts spelled) (stops_other Id tokens is_other)
  where
    into : (x : X) (ts : List Lexeme) → (sign RoundOpen ⌢ IsXInside x) ts → IsX x ts
    into x ts spelled = let left = spelled.at_front in subst (λ (l : List Lexeme). IsX x l) (sym (spelled.split ∙ ap (λ l. l ++ spelled.back) left.1.0)) (put_open left.0 x spelled.back left.1.1 spelled.at_back)

    back : (b : X) (ts : List Lexeme) → IsX b ts → StartsIn (λ w. w ≡ Id) ts ⊎ ((v : Unit {0} × X) × (IsSign RoundOpen ⊗ IsXInside) v ts × (b ≡ v.1))
    back b ts (name n tokens2 is) = inl (name_starts.starts n tokens2 is)
    back b ts (on_one left op right kind x within is is_op close is_x) = inr (
      (tt, one kind op.place x),
      record {
        front = left ∷ [];
        back = op ∷ within ++ right ∷ [];
        split = refl;
        at_front = (left, (refl, is));
        at_back = inside.on_one op kind x (within ++ right ∷ []) is_op (record { front = within; back = right ∷ []; split = refl; at_front = is_x; at_back = (right, (refl, close)) });
      },
      refl,
    )
    back b ts (on_two left op right kind x y front behind is is_op close is_x is_y) = inr (
      (tt, two kind op.place x y),
      record {
        front = left ∷ [];
        back = op ∷ front ++ (behind ++ right ∷ []);
        split = refl;
        at_front = (left, (refl, is));
        at_back = inside.on_two op kind x y (front ++ (behind ++ right ∷ [])) is_op (record { front = front; back = behind ++ right ∷ []; split = refl; at_front = is_x; at_back = record { front = behind; back = right ∷ []; split = refl; at_front = is_y; at_back = (right, (refl, close)) } });
      },
      refl,
    )
    back b ts (new left right n labels xs head row children is close is_n are_labels are) = let list = xs_are xs children are in inr (
      (tt, literal n labels (xs_of list.list)),
      record {
        front = left ∷ [];
        back = head ++ (row ++ (children ++ right ∷ []));
        split = refl;
        at_front = (left, (refl, is));
        at_back = inside.new n labels list.list (head ++ (row ++ (children ++ right ∷ []))) (record { front = head; back = row ++ (children ++ right ∷ []); split = refl; at_front = is_n; at_back = record { front = row; back = children ++ right ∷ []; split = refl; at_front = are_labels; at_back = record { front = children; back = right ∷ []; split = refl; at_front = list.spelled; at_back = (right, (refl, close)) } } });
      },
      ap (λ l. literal n labels l) list.is,
    )

-- What stands behind an opening parenthesis.

pub one_makes : (tokens rest : List Lexeme) (t : Lexeme) (op : Op1) → tokens ≡ t ∷ rest → t.word ≡ op1_word op → Makes (IsOp1At ⊗ (IsX ⊗ IsSign RoundClose)) IsXInside (λ v. one v.0.1 v.0.0.place v.1.0) closed tokens
one_makes tokens rest t op here is = alternative IsNoOp1 tokens (λ v ts spelled. into v ts spelled) (λ b ts spelled. back b ts spelled) (subst (λ (l : List Lexeme). Stops IsNoOp1 l) (sym here) (λ none. none op is))
  where
    into : (v : (Lexeme × Op1) × (X × Unit {0})) (ts : List Lexeme) → (IsOp1At ⊗ (IsX ⊗ IsSign RoundClose)) v ts → IsXInside (one v.0.1 v.0.0.place v.1.0) ts
    into v ts spelled = subst (λ (l : List Lexeme). IsXInside (one v.0.1 v.0.0.place v.1.0) l) (sym (spelled.split ∙ ap (λ l. l ++ spelled.back) spelled.at_front.0)) (inside.on_one v.0.0 v.0.1 v.1.0 spelled.back spelled.at_front.1 spelled.at_back)

    back : (b : X) (ts : List Lexeme) → IsXInside b ts → StartsIn IsNoOp1 ts ⊎ ((v : (Lexeme × Op1) × (X × Unit {0})) × (IsOp1At ⊗ (IsX ⊗ IsSign RoundClose)) v ts × (b ≡ one v.0.1 v.0.0.place v.1.0))
    back b ts (inside.on_one s kind x within is_op joined) = inr (((s, kind), (x, tt)), record { front = s ∷ []; back = within; split = refl; at_front = (refl, is_op); at_back = joined }, refl)
    back b ts (inside.on_two s kind x y within is_op joined) = inl (λ a is_a. apart_ops a kind s.word is_a is_op)
    back b ts (inside.new n labels xs within joined) = inl (starts_joined IsNoOp1 _ _ within (λ l is_name. starts_wider (λ w. w ≡ Id) IsNoOp1 l (λ w a o e. id_apart_op1 o w a e) (name_starts.starts n l is_name)) joined)

pub two_makes : (tokens rest : List Lexeme) (t : Lexeme) (op : Op2) → tokens ≡ t ∷ rest → t.word ≡ op2_word op → Makes (IsOp2At ⊗ (IsX ⊗ (IsX ⊗ IsSign RoundClose))) IsXInside (λ v. two v.0.1 v.0.0.place v.1.0 v.1.1.0) closed tokens
two_makes tokens rest t op here is = alternative IsNoOp2 tokens (λ v ts spelled. into v ts spelled) (λ b ts spelled. back b ts spelled) (subst (λ (l : List Lexeme). Stops IsNoOp2 l) (sym here) (λ none. none op is))
  where
    into : (v : (Lexeme × Op2) × (X × (X × Unit {0}))) (ts : List Lexeme) → (IsOp2At ⊗ (IsX ⊗ (IsX ⊗ IsSign RoundClose))) v ts → IsXInside (two v.0.1 v.0.0.place v.1.0 v.1.1.0) ts
    into v ts spelled = subst (λ (l : List Lexeme). IsXInside (two v.0.1 v.0.0.place v.1.0 v.1.1.0) l) (sym (spelled.split ∙ ap (λ l. l ++ spelled.back) spelled.at_front.0)) (inside.on_two v.0.0 v.0.1 v.1.0 v.1.1.0 spelled.back spelled.at_front.1 spelled.at_back)

    back : (b : X) (ts : List Lexeme) → IsXInside b ts → StartsIn IsNoOp2 ts ⊎ ((v : (Lexeme × Op2) × (X × (X × Unit {0}))) × (IsOp2At ⊗ (IsX ⊗ (IsX ⊗ IsSign RoundClose))) v ts × (b ≡ two v.0.1 v.0.0.place v.1.0 v.1.1.0))
    back b ts (inside.on_one s kind x within is_op joined) = inl (λ o is_o. apart_ops kind o s.word is_op is_o)
    back b ts (inside.on_two s kind x y within is_op joined) = inr (((s, kind), (x, (y, tt))), record { front = s ∷ []; back = within; split = refl; at_front = (refl, is_op); at_back = joined }, refl)
    back b ts (inside.new n labels xs within joined) = inl (starts_joined IsNoOp2 _ _ within (λ l is_name. starts_wider (λ w. w ≡ Id) IsNoOp2 l (λ w a o e. id_apart_op2 o w a e) (name_starts.starts n l is_name)) joined)

abbrev IsOp : Word → Type 0
IsOp w = ((a : Op1) × (w ≡ op1_word a)) ⊎ ((b : Op2) × (w ≡ op2_word b))

no_op : (tokens : List Lexeme) → NoOp1 tokens → NoOp2 tokens → Stops IsOp tokens
no_op [] a b = tt
no_op (t ∷ ts) a b = λ h. elim h [ inl x ↦ a x.0 x.1 | inr y ↦ b y.0 y.1 ]

abbrev pub literal_parts : Name × (List Expr × List X) → List Lexeme → Type 0
literal_parts = IsName ⊗ (AreLabels ⊗ AreXsToClose)

pub literal_makes : (tokens : List Lexeme) → NoOp1 tokens → NoOp2 tokens → Makes literal_parts IsXInside (λ v. literal v.0 v.1.0 (xs_of v.1.1)) closed tokens
literal_makes tokens no_one no_two = alternative IsOp tokens (λ v ts spelled. inside.new v.0 v.1.0 v.1.1 ts spelled) (λ b ts spelled. back b ts spelled) (no_op tokens no_one no_two)
  where
    back : (b : X) (ts : List Lexeme) → IsXInside b ts → StartsIn IsOp ts ⊎ ((v : Name × (List Expr × List X)) × literal_parts v ts × (b ≡ literal v.0 v.1.0 (xs_of v.1.1)))
    back b ts (inside.on_one s kind x within is_op joined) = inl (inl (kind, is_op))
    back b ts (inside.on_two s kind x y within is_op joined) = inl (inr (kind, is_op))
    back b ts (inside.new n labels xs within joined) = inr ((n, (labels, xs)), joined, refl)

x_starts : (x : X) (ts : List Lexeme) → IsX x ts → StartsIn (λ w. (w ≡ Id) ⊎ (w ≡ RoundOpen)) ts
x_starts x ts (name n tokens is) = starts_wider (λ w. w ≡ Id) (λ w. (w ≡ Id) ⊎ (w ≡ RoundOpen)) tokens (λ w a. inl a) (name_starts.starts n tokens is)
x_starts x ts (on_one left op right kind y within is is_op close is_x) = inr is
x_starts x ts (on_two left op right kind y z front behind is is_op close is_x is_y) = inr is
x_starts x ts (new left right n labels xs head row children is close is_n are_labels are) = inr is

-- by a name or an opening parenthesis
abbrev pub x_word : Word → Type 0
x_word w = (w ≡ Id) ⊎ (w ≡ RoundOpen)

pub x_begins : AllStartIn (λ w. (w ≡ Id) ⊎ (w ≡ RoundOpen)) IsX
x_begins = record { starts = λ x ts is. x_starts x ts is }

no_close : (w : Word) → (w ≡ Id) ⊎ (w ≡ RoundOpen) → w ≡ RoundClose → ⊥
no_close w (inl a) e = let f : Id ≡ RoundClose = sym a ∙ e in cc
no_close w (inr a) e = let f : RoundOpen ≡ RoundClose = sym a ∙ e in cc

pub xs_closable : IsClosable IsX closed RoundClose
xs_closable = record { apart = record { starts = λ x ts is. starts_wider (λ w. (w ≡ Id) ⊎ (w ≡ RoundOpen)) (other_than RoundClose) ts no_close (x_starts x ts is) }; ends = ends_closed (closing_of IsX RoundClose) closed }

pub sample_x : HasSample IsX
sample_x = sample_as named (λ n ts spelled. name n ts spelled) sample_name

pub x_item : IsItem gap.Nothing RoundClose IsX closed
x_item = starting_item gap.Nothing RoundClose (λ w. (w ≡ Id) ⊎ (w ≡ RoundOpen)) sample_x (record { starts = λ x ts is. x_starts x ts is }) no_minus no_comma no_close (λ h. cc, λ h. cc) (ends_closed _ closed)
  where
    no_minus : (w : Word) → (w ≡ Id) ⊎ (w ≡ RoundOpen) → w ≡ Minus → ⊥
    no_minus w (inl a) e = let f : Id ≡ Minus = sym a ∙ e in cc
    no_minus w (inr a) e = let f : RoundOpen ≡ Minus = sym a ∙ e in cc

    no_comma : (w : Word) → (w ≡ Id) ⊎ (w ≡ RoundOpen) → w ≡ Comma → ⊥
    no_comma w (inl a) e = let f : Id ≡ Comma = sym a ∙ e in cc
    no_comma w (inr a) e = let f : RoundOpen ≡ Comma = sym a ∙ e in cc

pub sample_xs : HasSample AreXsToClose
sample_xs = sample_to_close IsX RoundClose

-- a name, or what stands in parentheses
pub x_cases : (x : X) (ts : List Lexeme) → IsX x ts → ((n : Name) × IsName n ts × (x ≡ named n)) ⊎ (sign RoundOpen ⌢ IsXInside x) ts
x_cases x ts (name n tokens is) = inl (n, is, refl)
x_cases x ts (on_one left op right kind y within is is_op close is_x) = inr (record { front = left ∷ []; back = op ∷ within ++ right ∷ []; split = refl; at_front = (left, (refl, is)); at_back = inside.on_one op kind y (within ++ right ∷ []) is_op (record { front = within; back = right ∷ []; split = refl; at_front = is_x; at_back = (right, (refl, close)) }) })
x_cases x ts (on_two left op right kind y z front behind is is_op close is_x is_y) = inr (record { front = left ∷ []; back = op ∷ front ++ (behind ++ right ∷ []); split = refl; at_front = (left, (refl, is)); at_back = inside.on_two op kind y z (front ++ (behind ++ right ∷ [])) is_op (record { front = front; back = behind ++ right ∷ []; split = refl; at_front = is_x; at_back = record { front = behind; back = right ∷ []; split = refl; at_front = is_y; at_back = (right, (refl, close)) } }) })
x_cases x ts (new left right n labels xs head row children is close is_n are_labels are) = let list = xs_are xs children are in
    inr (subst (λ (y : X). (sign RoundOpen ⌢ IsXInside y) (left ∷ head ++ (row ++ (children ++ right ∷ [])))) (sym (ap (λ l. literal n labels l) list.is)) (record { front = left ∷ []; back = head ++ (row ++ (children ++ right ∷ [])); split = refl; at_front = (left, (refl, is)); at_back = inside.new n labels list.list (head ++ (row ++ (children ++ right ∷ []))) (record { front = head; back = row ++ (children ++ right ∷ []); split = refl; at_front = is_n; at_back = record { front = row; back = children ++ right ∷ []; split = refl; at_front = are_labels; at_back = record { front = children; back = right ∷ []; split = refl; at_front = list.spelled; at_back = (right, (refl, close)) } } }) }))

pub x_opened : (x : X) (ts : List Lexeme) → (sign RoundOpen ⌢ IsXInside x) ts → IsX x ts
x_opened x ts spelled = let left = spelled.at_front in subst (λ (l : List Lexeme). IsX x l) (sym (spelled.split ∙ ap (λ l. l ++ spelled.back) left.1.0)) (put_open left.0 x spelled.back left.1.1 spelled.at_back)

-- the words by which what stands in parentheses begins
abbrev pub inside_word : Word → Type 0
inside_word w = (w ≡ Id) ⊎ (((a : Op1) × (w ≡ op1_word a)) ⊎ ((b : Op2) × (w ≡ op2_word b)))

pub inside_begins : (x : X) (ts : List Lexeme) → IsXInside x ts → StartsIn (λ w. (w ≡ Id) ⊎ (((a : Op1) × (w ≡ op1_word a)) ⊎ ((b : Op2) × (w ≡ op2_word b)))) ts
inside_begins x ts (inside.on_one s kind y within is_op joined) = inr (inl (kind, is_op))
inside_begins x ts (inside.on_two s kind y z within is_op joined) = inr (inr (kind, is_op))
inside_begins x ts (inside.new n labels xs within joined) = starts_wider (λ w. w ≡ Id) (λ w. (w ≡ Id) ⊎ (((a : Op1) × (w ≡ op1_word a)) ⊎ ((b : Op2) × (w ≡ op2_word b)))) within (λ w a. inl a) (starts_joined (λ w. w ≡ Id) _ _ within (name_starts.starts n) joined)

-- other words
not_inside : (v w : Word) → (v ≡ Id → ⊥) → op1_in v ≡ None → op2_in v ≡ None → (w ≡ Id) ⊎ (((a : Op1) × (w ≡ op1_word a)) ⊎ ((b : Op2) × (w ≡ op2_word b))) → w ≡ v → ⊥
not_inside v w no_name no_one no_two (inl a) e = no_name (sym e ∙ a)
not_inside v w no_name no_one no_two (inr (inl a)) e = let f : None ≡ Some a.0 = sym no_one ∙ ap op1_in (sym e ∙ a.1) ∙ op1_is a.0 in cc
not_inside v w no_name no_one no_two (inr (inr b)) e = let f : None ≡ Some b.0 = sym no_two ∙ ap op2_in (sym e ∙ b.1) ∙ op2_is b.0 in cc

pub inside_no_open : (w : Word) → (w ≡ Id) ⊎ (((a : Op1) × (w ≡ op1_word a)) ⊎ ((b : Op2) × (w ≡ op2_word b))) → w ≡ RoundOpen → ⊥
unfolding op1_in op2_in
inside_no_open w starts e = not_inside RoundOpen w (λ h. cc) refl refl starts e

pub inside_no_empty : (w : Word) → (w ≡ Id) ⊎ (((a : Op1) × (w ≡ op1_word a)) ⊎ ((b : Op2) × (w ≡ op2_word b))) → w ≡ word.IsEmpty → ⊥
unfolding op1_in op2_in
inside_no_empty w starts e = not_inside word.IsEmpty w (λ h. cc) refl refl starts e

pub inside_no_check : (w : Word) → (w ≡ Id) ⊎ (((a : Op1) × (w ≡ op1_word a)) ⊎ ((b : Op2) × (w ≡ op2_word b))) → w ≡ word.TypeCheck → ⊥
unfolding op1_in op2_in
inside_no_check w starts e = not_inside word.TypeCheck w (λ h. cc) refl refl starts e

pub op_no_name : (w : Word) → ((a : Op1) × (w ≡ op1_word a)) ⊎ ((b : Op2) × (w ≡ op2_word b)) → w ≡ Id → ⊥
op_no_name w (inl a) e = id_apart_op1 a.0 w e a.1
op_no_name w (inr b) e = id_apart_op2 b.0 w e b.1

pub sample_x_inside : HasSample IsXInside
sample_x_inside = sample_as (λ (v : Name × (List Expr × List X)). literal v.0 v.1.0 (xs_of v.1.1)) (λ v ts spelled. inside.new v.0 v.1.0 v.1.1 ts spelled) (sample_pair sample_name (sample_pair sample_labels sample_xs))
