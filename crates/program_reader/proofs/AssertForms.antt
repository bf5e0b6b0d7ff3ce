-- Of what assertions are made.
use Rattle.std.proofs.Common.{◌≡◌, Bool, true, false, List, ◌++◌, refl, sym, ap, ◌∙◌, subst, Result, Ok, Err, ◌⊎◌, inl, inr}
use Rattle.model_program.specs.declared.Word.{Word}
use Rattle.model_program.specs.declared.Word.TheVariants.{Id, In, Same, Element, IsEmpty, TypeCheck, RoundOpen, RoundClose, SquareOpen}
use Rattle.model_program.specs.Lexeme.{Lexeme}
use Rattle.model_program.specs.Syntax.{Name}
use Rattle.model_program.specs.Joined.{◌⌢◌, IsNext, IsOther, ◌⊗◌}
use Rattle.read_forms.specs.Reads.{IsRead, StartsIn, closed}
use Rattle.read_forms.specs.Fronts.{Leaves, Made}
use Rattle.read_forms.proofs.Fronts.{left_leaves, left_made, first_left, makes_of_made, made_makes}
use Rattle.model_program.specs.Grammar.{IsSign, sign, IsName}
use Rattle.read_forms.specs.Parts.{HasSample, other_than}
use Rattle.read_forms.proofs.Forms.{Makes, as_read, as_fails, then_read, then_fails, sample_as, sample_pair, remade, alternative, ends_closed, starts_joined, starts_append, starts_wider, stops_other, stops_other_than, stops_both}
use Rattle.read_forms.proofs.Words.{sign_starts, sample_sign, word_other}
use Rattle.model_grammar.specs.Syntax.{Expr, X, named, literal, xs_of, Claim, equal, member, empty, type_check}
use Rattle.model_grammar.specs.Terms.{IsX, name, AreLabels}
use Rattle.model_grammar.specs.Grammar.{IsIn, IsA, IsB}
use Rattle.label_reader.specs.declared.stop.Stop.{Stop}
use Rattle.label_reader.specs.Results.{Reads}
use Rattle.label_reader.proofs.Names.{name_starts}
use Rattle.read_forms.proofs.Lists.{to_left, to_right}
use Rattle.label_reader.proofs.Listed.{front_as}
use Rattle.program_reader.specs.Nodes.{IsXInside, on_one, on_two, new, AreXsToClose}
use Rattle.program_reader.specs.Assertions.{IsRelation, IsRight, related, IsBInside, no_trees, checked, compared, IsAInside, IsBehindName}
use Rattle.program_reader.proofs.XForms.{x_begins, x_cases, x_opened, inside_begins, inside_no_open, inside_no_empty, inside_no_check, op_no_name, sample_x}

joined_as : (p q r : List Lexeme → Type 0) (ts : List Lexeme) → ((l : List Lexeme) → q l → r l) → (p ⌢ q) ts → (p ⌢ r) ts
joined_as p q r ts wider joined = record { front = joined.front; back = joined.back; split = joined.split; at_front = joined.at_front; at_back = wider joined.back joined.at_back }

-- What relates two expressions.

pub same_makes : (tokens : List Lexeme) → IsNext Same tokens → Makes (IsSign Same) IsRelation (λ _. true) closed tokens
same_makes tokens is_next = alternative (other_than Same) tokens (λ _ ts spelled. spelled) (λ b ts spelled. back b ts spelled) (stops_other_than Same tokens is_next)
  where
    back : (b : Bool) (ts : List Lexeme) → IsRelation b ts → StartsIn (other_than Same) ts ⊎ ((u : Unit {0}) × IsSign Same u ts × (b ≡ true))
    back true ts spelled = inr (tt, spelled, refl)
    back false ts (inl is) = inl (word_other Same In is.0 ts (λ e. cc) is.1)
    back false ts (inr is) = inl (word_other Same Element is.0 ts (λ e. cc) is.1)

pub in_makes : (tokens : List Lexeme) → IsNext In tokens → Makes (IsSign In) IsRelation (λ _. false) closed tokens
in_makes tokens is_next = alternative (other_than In) tokens (λ _ ts spelled. inl spelled) (λ b ts spelled. back b ts spelled) (stops_other_than In tokens is_next)
  where
    back : (b : Bool) (ts : List Lexeme) → IsRelation b ts → StartsIn (other_than In) ts ⊎ ((u : Unit {0}) × IsSign In u ts × (b ≡ false))
    back true ts is = inl (word_other In Same is.0 ts (λ e. cc) is.1)
    back false ts (inl is) = inr (tt, is, refl)
    back false ts (inr is) = inl (word_other In Element is.0 ts (λ e. cc) is.1)

pub element_makes : (tokens : List Lexeme) → IsOther Same tokens → IsOther In tokens → Makes (IsSign Element) IsRelation (λ _. false) closed tokens
element_makes tokens no_same no_in = alternative (λ w. (w ≡ Same) ⊎ (w ≡ In)) tokens (λ _ ts spelled. inr spelled) (λ b ts spelled. back b ts spelled) (stops_both (λ w. w ≡ Same) (λ w. w ≡ In) tokens (stops_other Same tokens no_same) (stops_other In tokens no_in))
  where
    back : (b : Bool) (ts : List Lexeme) → IsRelation b ts → StartsIn (λ w. (w ≡ Same) ⊎ (w ≡ In)) ts ⊎ ((u : Unit {0}) × IsSign Element u ts × (b ≡ false))
    back true ts is = inl (starts_wider (λ w. w ≡ Same) (λ w. (w ≡ Same) ⊎ (w ≡ In)) ts (λ w a. inl a) ((sign_starts Same).starts tt ts is))
    back false ts (inl is) = inl (starts_wider (λ w. w ≡ In) (λ w. (w ≡ Same) ⊎ (w ≡ In)) ts (λ w a. inr a) ((sign_starts In).starts tt ts is))
    back false ts (inr is) = inr (tt, is, refl)

-- which of the signs is to be read is known, and so is what it says
pub relation_known : {sign_word given : Word} {b known : Bool} {tokens : List Lexeme} → sign_word ≡ given → b ≡ known → Makes (IsSign given) IsRelation (λ _. known) closed tokens → Makes (IsSign sign_word) IsRelation (λ _. b) closed tokens
relation_known {sign_word} {given} {b} {known} {tokens} is_sign is_known makes = subst (λ (w : Word). Makes (IsSign w) IsRelation (λ _. b) closed tokens) (sym is_sign) (subst (λ (a : Bool). Makes (IsSign given) IsRelation (λ _. a) closed tokens) (sym is_known) makes)

relation_starts : (b : Bool) (ts : List Lexeme) → IsRelation b ts → StartsIn (other_than SquareOpen) ts
relation_starts true ts is = word_other SquareOpen Same is.0 ts (λ e. cc) is.1
relation_starts false ts (inl is) = word_other SquareOpen In is.0 ts (λ e. cc) is.1
relation_starts false ts (inr is) = word_other SquareOpen Element is.0 ts (λ e. cc) is.1

pub right_makes : (tokens : List Lexeme) → Makes (IsRelation ⊗ IsX) IsRight (λ v. v) closed tokens
right_makes tokens = remade (λ v ts spelled. spelled) (λ v ts spelled. (v, spelled, refl))

-- behind a left side that is known
pub compare_makes : (x : X) (tokens : List Lexeme) → Makes (IsRelation ⊗ IsX) (Made (related x) IsRight) (λ v. related x v) closed tokens
compare_makes x tokens = makes_of_made (right_makes tokens) (made_makes (related x) IsRight)

sample_relation : HasSample IsRelation
sample_relation = sample_as (λ _. true) (λ _ ts spelled. spelled) (sample_sign Same)

pub sample_right : HasSample IsRight
sample_right = sample_as (λ v. v) (λ v ts spelled. spelled) (sample_pair sample_relation sample_x)

-- A comparison.

related_spells : (x : X) (b : Bool) (y : X) (ts : List Lexeme) → (IsX x ⌢ IsRight (b, y)) ts → IsB (related x (b, y)) ts
related_spells x true y ts spelled = spelled
related_spells x false y ts spelled = spelled

pub compared_makes : (tokens : List Lexeme) → IsOther RoundOpen tokens → Makes (IsX ⊗ IsRight) IsB (λ v. related v.0 v.1) closed tokens
compared_makes tokens is_other = alternative (λ w. w ≡ RoundOpen) tokens (λ v ts spelled. related_spells v.0 v.1.0 v.1.1 ts spelled) (λ b ts spelled. back b ts spelled) (stops_other RoundOpen tokens is_other)
  where
    back : (b : Claim) (ts : List Lexeme) → IsB b ts → StartsIn (λ w. w ≡ RoundOpen) ts ⊎ ((v : X × (Bool × X)) × (IsX ⊗ IsRight) v ts × (b ≡ related v.0 v.1))
    back (equal x y) ts spelled = inr ((x, (true, y)), spelled, refl)
    back (member x y) ts spelled = inr ((x, (false, y)), spelled, refl)
    back (empty x) ts spelled = inl (starts_joined (λ w. w ≡ RoundOpen) _ _ ts ((sign_starts RoundOpen).starts tt) spelled)
    back (type_check x y z) ts spelled = inl (starts_joined (λ w. w ≡ RoundOpen) _ _ ts ((sign_starts RoundOpen).starts tt) spelled)

-- Behind a parenthesis.

b_opened : (c : Claim) (ts : List Lexeme) → (sign RoundOpen ⌢ IsBInside c) ts → IsB c ts
b_opened c ts spelled = subst (λ (l : List Lexeme). IsB c l) (sym spelled.split) (by c spelled.back spelled.at_back spelled.front spelled.at_front)
  where
    by : (c : Claim) (back : List Lexeme) → IsBInside c back → (front : List Lexeme) → sign RoundOpen front → IsB c (front ++ back)
    by c back (no_trees x tokens joined) front open_sign = record { front = front; back = tokens; split = refl; at_front = open_sign; at_back = joined }
    by c back (checked x y z tokens joined) front open_sign = record { front = front; back = tokens; split = refl; at_front = open_sign; at_back = joined }
    by c back (compared x right tokens joined) front open_sign = related_spells x right.0 right.1 (front ++ tokens)
        (front_as (sign RoundOpen ⌢ IsXInside x) (IsX x) (IsRight right) (front ++ tokens) (x_opened x) (to_left (sign RoundOpen) (IsXInside x) (IsRight right) (front ++ tokens) (record { front = front; back = tokens; split = refl; at_front = open_sign; at_back = joined })))

-- a comparison that begins with a name, or what stands behind a parenthesis
b_cases : (c : Claim) (ts : List Lexeme) → IsB c ts → StartsIn (other_than RoundOpen) ts ⊎ (sign RoundOpen ⌢ IsBInside c) ts
b_cases (equal x y) ts spelled = by (x_cases x spelled.front spelled.at_front)
  where
    by : ((n : Name) × IsName n spelled.front × (x ≡ named n)) ⊎ (sign RoundOpen ⌢ IsXInside x) spelled.front → StartsIn (other_than RoundOpen) ts ⊎ (sign RoundOpen ⌢ IsBInside (equal x y)) ts
    by (inl is) = inl (starts_joined (other_than RoundOpen) (IsName is.0) (sign Same ⌢ IsX y) ts (λ l a. starts_wider (λ w. w ≡ Id) (other_than RoundOpen) l (λ w i o. let e : Id ≡ RoundOpen = sym i ∙ o in cc) (name_starts.starts is.0 l a)) (record { front = spelled.front; back = spelled.back; split = spelled.split; at_front = is.1; at_back = spelled.at_back }))
    by (inr opened) = inr (joined_as (sign RoundOpen) (IsXInside x ⌢ IsRight (true, y)) (IsBInside (equal x y)) ts (λ l j. compared x (true, y) l j) (to_right (sign RoundOpen) (IsXInside x) (IsRight (true, y)) ts (record { front = spelled.front; back = spelled.back; split = spelled.split; at_front = opened; at_back = spelled.at_back })))
b_cases (member x y) ts spelled = by (x_cases x spelled.front spelled.at_front)
  where
    by : ((n : Name) × IsName n spelled.front × (x ≡ named n)) ⊎ (sign RoundOpen ⌢ IsXInside x) spelled.front → StartsIn (other_than RoundOpen) ts ⊎ (sign RoundOpen ⌢ IsBInside (member x y)) ts
    by (inl is) = inl (starts_joined (other_than RoundOpen) (IsName is.0) (IsIn tt ⌢ IsX y) ts (λ l a. starts_wider (λ w. w ≡ Id) (other_than RoundOpen) l (λ w i o. let e : Id ≡ RoundOpen = sym i ∙ o in cc) (name_starts.starts is.0 l a)) (record { front = spelled.front; back = spelled.back; split = spelled.split; at_front = is.1; at_back = spelled.at_back }))
    by (inr opened) = inr (joined_as (sign RoundOpen) (IsXInside x ⌢ IsRight (false, y)) (IsBInside (member x y)) ts (λ l j. compared x (false, y) l j) (to_right (sign RoundOpen) (IsXInside x) (IsRight (false, y)) ts (record { front = spelled.front; back = spelled.back; split = spelled.split; at_front = opened; at_back = spelled.at_back })))
b_cases (empty x) ts spelled = inr (joined_as (sign RoundOpen) (sign IsEmpty ⌢ IsX x ⌢ sign RoundClose) (IsBInside (empty x)) ts (λ l j. no_trees x l j) spelled)
b_cases (type_check x y z) ts spelled = inr (joined_as (sign RoundOpen) (sign TypeCheck ⌢ IsX x ⌢ IsX y ⌢ IsX z ⌢ sign RoundClose) (IsBInside (type_check x y z)) ts (λ l j. checked x y z l j) spelled)

pub b_open_makes : (tokens : List Lexeme) → IsNext RoundOpen tokens → Makes (IsSign RoundOpen ⊗ IsBInside) IsB (λ v. v.1) closed tokens
b_open_makes tokens is_next = alternative (other_than RoundOpen) tokens (λ v ts spelled. b_opened v.1 ts spelled) (λ b ts spelled. back b ts (b_cases b ts spelled)) (stops_other_than RoundOpen tokens is_next)
  where
    back : (b : Claim) (ts : List Lexeme) → StartsIn (other_than RoundOpen) ts ⊎ (sign RoundOpen ⌢ IsBInside b) ts → StartsIn (other_than RoundOpen) ts ⊎ ((v : Unit {0} × Claim) × (IsSign RoundOpen ⊗ IsBInside) v ts × (b ≡ v.1))
    back b ts (inl starts) = inl starts
    back b ts (inr spelled) = inr ((tt, b), spelled, refl)

-- behind its opening parenthesis
pub b_open_reads : {Y : Type 0} (tokens middle rest : List Lexeme) (view : Y → Claim) (r : Result Y Stop) → IsNext RoundOpen tokens → IsRead (IsSign RoundOpen) closed tokens tt middle → Reads IsBInside closed middle rest view r → Reads IsB closed tokens rest view r
b_open_reads tokens middle rest view (Ok c) is_next opens read = as_read (b_open_makes _ is_next) (then_read (ends_closed _ _) opens read)
b_open_reads tokens middle rest view (Err e) is_next opens fails = as_fails _ (b_open_makes _ is_next) (then_fails _ (ends_closed _ _) opens fails)

abbrev pub empty_parts : Unit {0} × (X × Unit {0}) → List Lexeme → Type 0
empty_parts = IsSign IsEmpty ⊗ (IsX ⊗ IsSign RoundClose)

abbrev pub check_parts : Unit {0} × (X × (X × (X × Unit {0}))) → List Lexeme → Type 0
check_parts = IsSign TypeCheck ⊗ (IsX ⊗ (IsX ⊗ (IsX ⊗ IsSign RoundClose)))

pub empty_makes : (tokens : List Lexeme) → IsNext IsEmpty tokens → Makes empty_parts IsBInside (λ v. empty v.1.0) closed tokens
empty_makes tokens is_next = alternative (other_than IsEmpty) tokens (λ v ts spelled. no_trees v.1.0 ts spelled) (λ b ts spelled. back b ts spelled) (stops_other_than IsEmpty tokens is_next)
  where
    back : (b : Claim) (ts : List Lexeme) → IsBInside b ts → StartsIn (other_than IsEmpty) ts ⊎ ((v : Unit {0} × (X × Unit {0})) × empty_parts v ts × (b ≡ empty v.1.0))
    back b ts (no_trees x tokens2 joined) = inr ((tt, (x, tt)), joined, refl)
    back b ts (checked x y z tokens2 joined) = inl (starts_joined (other_than IsEmpty) _ _ tokens2 (λ l is. word_other IsEmpty TypeCheck is.0 l (λ e. cc) is.1) joined)
    back b ts (compared x right tokens2 joined) = inl (starts_joined (other_than IsEmpty) (IsXInside x) (IsRight right) tokens2 (λ l is. starts_wider _ (other_than IsEmpty) l inside_no_empty (inside_begins x l is)) joined)

pub check_makes : (tokens : List Lexeme) → IsNext TypeCheck tokens → Makes check_parts IsBInside (λ v. type_check v.1.0 v.1.1.0 v.1.1.1.0) closed tokens
check_makes tokens is_next = alternative (other_than TypeCheck) tokens (λ v ts spelled. checked v.1.0 v.1.1.0 v.1.1.1.0 ts spelled) (λ b ts spelled. back b ts spelled) (stops_other_than TypeCheck tokens is_next)
  where
    back : (b : Claim) (ts : List Lexeme) → IsBInside b ts → StartsIn (other_than TypeCheck) ts ⊎ ((v : Unit {0} × (X × (X × (X × Unit {0})))) × check_parts v ts × (b ≡ type_check v.1.0 v.1.1.0 v.1.1.1.0))
    back b ts (no_trees x tokens2 joined) = inl (starts_joined (other_than TypeCheck) _ _ tokens2 (λ l is. word_other TypeCheck IsEmpty is.0 l (λ e. cc) is.1) joined)
    back b ts (checked x y z tokens2 joined) = inr ((tt, (x, (y, (z, tt)))), joined, refl)
    back b ts (compared x right tokens2 joined) = inl (starts_joined (other_than TypeCheck) (IsXInside x) (IsRight right) tokens2 (λ l is. starts_wider _ (other_than TypeCheck) l inside_no_check (inside_begins x l is)) joined)

pub inside_makes : (tokens : List Lexeme) → IsOther IsEmpty tokens → IsOther TypeCheck tokens → Makes (IsXInside ⊗ IsRight) IsBInside (λ v. related v.0 v.1) closed tokens
inside_makes tokens no_empty no_check = alternative (λ w. (w ≡ IsEmpty) ⊎ (w ≡ TypeCheck)) tokens (λ v ts spelled. compared v.0 v.1 ts spelled) (λ b ts spelled. back b ts spelled) (stops_both (λ w. w ≡ IsEmpty) (λ w. w ≡ TypeCheck) tokens (stops_other IsEmpty tokens no_empty) (stops_other TypeCheck tokens no_check))
  where
    back : (b : Claim) (ts : List Lexeme) → IsBInside b ts → StartsIn (λ w. (w ≡ IsEmpty) ⊎ (w ≡ TypeCheck)) ts ⊎ ((v : X × (Bool × X)) × (IsXInside ⊗ IsRight) v ts × (b ≡ related v.0 v.1))
    back b ts (no_trees x tokens2 joined) = inl (starts_joined (λ w. (w ≡ IsEmpty) ⊎ (w ≡ TypeCheck)) _ _ tokens2 (λ l is. starts_wider (λ w. w ≡ IsEmpty) (λ w. (w ≡ IsEmpty) ⊎ (w ≡ TypeCheck)) l (λ w a. inl a) ((sign_starts IsEmpty).starts tt l is)) joined)
    back b ts (checked x y z tokens2 joined) = inl (starts_joined (λ w. (w ≡ IsEmpty) ⊎ (w ≡ TypeCheck)) _ _ tokens2 (λ l is. starts_wider (λ w. w ≡ TypeCheck) (λ w. (w ≡ IsEmpty) ⊎ (w ≡ TypeCheck)) l (λ w a. inr a) ((sign_starts TypeCheck).starts tt l is)) joined)
    back b ts (compared x right tokens2 joined) = inr ((x, right), joined, refl)

pub sample_b_inside : HasSample IsBInside
sample_b_inside = sample_as (λ (v : Unit {0} × (X × Unit {0})). empty v.1.0) (λ v ts spelled. no_trees v.1.0 ts spelled) (sample_pair (sample_sign IsEmpty) (sample_pair sample_x (sample_sign RoundClose)))

b_inside_starts : (c : Claim) (ts : List Lexeme) → IsBInside c ts → StartsIn (other_than RoundOpen) ts
b_inside_starts c ts (no_trees x tokens joined) = starts_joined (other_than RoundOpen) _ _ tokens (λ l is. word_other RoundOpen IsEmpty is.0 l (λ e. cc) is.1) joined
b_inside_starts c ts (checked x y z tokens joined) = starts_joined (other_than RoundOpen) _ _ tokens (λ l is. word_other RoundOpen TypeCheck is.0 l (λ e. cc) is.1) joined
b_inside_starts c ts (compared x right tokens joined) = starts_joined (other_than RoundOpen) (IsXInside x) (IsRight right) tokens (λ l is. starts_wider _ (other_than RoundOpen) l inside_no_open (inside_begins x l is)) joined

-- Assertions.

pub a_open_makes : (tokens : List Lexeme) → IsNext RoundOpen tokens → Makes (IsSign RoundOpen ⊗ IsAInside) IsA (λ v. v.1) closed tokens
a_open_makes tokens is_next = alternative (other_than RoundOpen) tokens (λ v ts spelled. into v.1 ts spelled spelled.at_back) (λ b ts spelled. back b ts spelled) (stops_other_than RoundOpen tokens is_next)
  where
    into : (c : Claim) (ts : List Lexeme) (spelled : (sign RoundOpen ⌢ IsAInside c) ts) → IsAInside c spelled.back → IsA c ts
    into c ts spelled (inl inside) = inl (b_opened c ts (record { front = spelled.front; back = spelled.back; split = spelled.split; at_front = spelled.at_front; at_back = inside }))
    into c ts spelled (inr inside) = inr (record { front = spelled.front; back = spelled.back; split = spelled.split; at_front = spelled.at_front; at_back = inside })

    cases : (c : Claim) (ts : List Lexeme) → StartsIn (other_than RoundOpen) ts ⊎ (sign RoundOpen ⌢ IsBInside c) ts → StartsIn (other_than RoundOpen) ts ⊎ ((v : Unit {0} × Claim) × (IsSign RoundOpen ⊗ IsAInside) v ts × (c ≡ v.1))
    cases c ts (inl starts) = inl starts
    cases c ts (inr spelled) = inr ((tt, c), joined_as (sign RoundOpen) (IsBInside c) (IsAInside c) ts (λ l j. inl j) spelled, refl)

    back : (c : Claim) (ts : List Lexeme) → IsA c ts → StartsIn (other_than RoundOpen) ts ⊎ ((v : Unit {0} × Claim) × (IsSign RoundOpen ⊗ IsAInside) v ts × (c ≡ v.1))
    back c ts (inl b) = cases c ts (b_cases c ts b)
    back c ts (inr joined) = inr ((tt, c), joined_as (sign RoundOpen) (IsB c ⌢ sign RoundClose) (IsAInside c) ts (λ l j. inr j) joined, refl)

-- behind its opening parenthesis
pub a_open_reads : {Y : Type 0} (tokens middle rest : List Lexeme) (view : Y → Claim) (r : Result Y Stop) → IsNext RoundOpen tokens → IsRead (IsSign RoundOpen) closed tokens tt middle → Reads IsAInside closed middle rest view r → Reads IsA closed tokens rest view r
a_open_reads tokens middle rest view (Ok c) is_next opens read = as_read (a_open_makes _ is_next) (then_read (ends_closed _ _) opens read)
a_open_reads tokens middle rest view (Err e) is_next opens fails = as_fails _ (a_open_makes _ is_next) (then_fails _ (ends_closed _ _) opens fails)

pub a_plain_makes : (tokens : List Lexeme) → IsOther RoundOpen tokens → Makes IsB IsA (λ c. c) closed tokens
a_plain_makes tokens is_other = alternative (λ w. w ≡ RoundOpen) tokens (λ c ts spelled. inl spelled) (λ c ts spelled. back c ts spelled) (stops_other RoundOpen tokens is_other)
  where
    back : (c : Claim) (ts : List Lexeme) → IsA c ts → StartsIn (λ w. w ≡ RoundOpen) ts ⊎ ((b : Claim) × IsB b ts × (c ≡ b))
    back c ts (inl b) = inr (c, b, refl)
    back c ts (inr joined) = inl (starts_joined (λ w. w ≡ RoundOpen) _ _ ts ((sign_starts RoundOpen).starts tt) joined)

pub bracketed_makes : (tokens : List Lexeme) → IsNext RoundOpen tokens → Makes (IsB ⊗ IsSign RoundClose) IsAInside (λ v. v.0) closed tokens
bracketed_makes tokens is_next = alternative (other_than RoundOpen) tokens (λ v ts spelled. inr spelled) (λ c ts spelled. back c ts spelled) (stops_other_than RoundOpen tokens is_next)
  where
    back : (c : Claim) (ts : List Lexeme) → IsAInside c ts → StartsIn (other_than RoundOpen) ts ⊎ ((v : Claim × Unit {0}) × (IsB ⊗ IsSign RoundClose) v ts × (c ≡ v.0))
    back c ts (inl inside) = inl (b_inside_starts c ts inside)
    back c ts (inr joined) = inr ((c, tt), joined, refl)

b_starts : (c : Claim) (ts : List Lexeme) → IsB c ts → StartsIn (λ w. (w ≡ Id) ⊎ (w ≡ RoundOpen)) ts
b_starts (equal x y) ts spelled = starts_joined (λ w. (w ≡ Id) ⊎ (w ≡ RoundOpen)) _ _ ts (x_begins.starts x) spelled
b_starts (member x y) ts spelled = starts_joined (λ w. (w ≡ Id) ⊎ (w ≡ RoundOpen)) _ _ ts (x_begins.starts x) spelled
b_starts (empty x) ts spelled = starts_wider (λ w. w ≡ RoundOpen) (λ w. (w ≡ Id) ⊎ (w ≡ RoundOpen)) ts (λ w a. inr a) (starts_joined (λ w. w ≡ RoundOpen) _ _ ts ((sign_starts RoundOpen).starts tt) spelled)
b_starts (type_check x y z) ts spelled = starts_wider (λ w. w ≡ RoundOpen) (λ w. (w ≡ Id) ⊎ (w ≡ RoundOpen)) ts (λ w a. inr a) (starts_joined (λ w. w ≡ RoundOpen) _ _ ts ((sign_starts RoundOpen).starts tt) spelled)

pub unbracketed_makes : (tokens : List Lexeme) → IsOther RoundOpen tokens → IsOther Id tokens → Makes IsBInside IsAInside (λ c. c) closed tokens
unbracketed_makes tokens no_open no_name = alternative (λ w. (w ≡ Id) ⊎ (w ≡ RoundOpen)) tokens (λ c ts spelled. inl spelled) (λ c ts spelled. back c ts spelled) (stops_both (λ w. w ≡ Id) (λ w. w ≡ RoundOpen) tokens (stops_other Id tokens no_name) (stops_other RoundOpen tokens no_open))
  where
    back : (c : Claim) (ts : List Lexeme) → IsAInside c ts → StartsIn (λ w. (w ≡ Id) ⊎ (w ≡ RoundOpen)) ts ⊎ ((b : Claim) × IsBInside b ts × (c ≡ b))
    back c ts (inl inside) = inr (c, inside, refl)
    back c ts (inr joined) = inl (starts_joined (λ w. (w ≡ Id) ⊎ (w ≡ RoundOpen)) _ _ ts (b_starts c) joined)

-- A parenthesis and a name.

abbrev pub Named : Type 0
Named = (List Expr × (List X × (Bool × X))) ⊎ (Bool × X)

abbrev pub named_claim : Name → (List Expr × (List X × (Bool × X))) ⊎ (Bool × X) → Claim
named_claim n (inl v) = related (literal n v.0 (xs_of v.1.0)) v.1.1
named_claim n (inr v) = related (named n) v

pub name_makes : (tokens : List Lexeme) → IsNext Id tokens → Makes (IsName ⊗ IsBehindName) IsAInside (λ v. named_claim v.0 v.1) closed tokens
name_makes tokens is_next = alternative (other_than Id) tokens (λ v ts spelled. into v.0 v.1 ts spelled) (λ c ts spelled. back c ts spelled) (stops_other_than Id tokens is_next)
  where
    into : (n : Name) (m : (List Expr × (List X × (Bool × X))) ⊎ (Bool × X)) (ts : List Lexeme) → (IsName n ⌢ IsBehindName m) ts → IsAInside (named_claim n m) ts
    into n (inl v) ts spelled = inl (compared (literal n v.0 (xs_of v.1.0)) v.1.1 ts (front_as (IsName n ⌢ (AreLabels v.0 ⌢ AreXsToClose v.1.0)) (IsXInside (literal n v.0 (xs_of v.1.0))) (IsRight v.1.1) ts (λ l j. new n v.0 v.1.0 l j)
        (to_left (IsName n) (AreLabels v.0 ⌢ AreXsToClose v.1.0) (IsRight v.1.1) ts (joined_as (IsName n) (AreLabels v.0 ⌢ (AreXsToClose v.1.0 ⌢ IsRight v.1.1)) ((AreLabels v.0 ⌢ AreXsToClose v.1.0) ⌢ IsRight v.1.1) ts (λ l j. to_left (AreLabels v.0) (AreXsToClose v.1.0) (IsRight v.1.1) l j) spelled))))
    into n (inr v) ts spelled = inr (front_as (IsName n ⌢ IsRight v) (IsB (related (named n) v)) (sign RoundClose) ts (λ l j. related_spells (named n) v.0 v.1 l (front_as (IsName n) (IsX (named n)) (IsRight v) l (λ k is. name n k is) j)) (to_left (IsName n) (IsRight v) (sign RoundClose) ts spelled))

    by_inside : (x : X) (right : Bool × X) (ts front : List Lexeme) → IsXInside x front → (behind : List Lexeme) → ts ≡ front ++ behind → IsRight right behind → StartsIn (other_than Id) ts ⊎ ((v : Name × ((List Expr × (List X × (Bool × X))) ⊎ (Bool × X))) × (IsName ⊗ IsBehindName) v ts × (related x right ≡ named_claim v.0 v.1))
    by_inside x right ts front (on_one s kind y within is_op joined) behind split spelled = inl (subst (λ (l : List Lexeme). StartsIn (other_than Id) l) (sym split) (op_no_name s.word (inl (kind, is_op))))
    by_inside x right ts front (on_two s kind y z within is_op joined) behind split spelled = inl (subst (λ (l : List Lexeme). StartsIn (other_than Id) l) (sym split) (op_no_name s.word (inr (kind, is_op))))
    by_inside x right ts front (new n labels xs within joined) behind split spelled = inr (
      (n, inl (labels, (xs, right))),
      joined_as (IsName n) ((AreLabels labels ⌢ AreXsToClose xs) ⌢ IsRight right) (IsBehindName (inl (labels, (xs, right)))) ts (λ l j. to_right (AreLabels labels) (AreXsToClose xs) (IsRight right) l j)
          (to_right (IsName n) (AreLabels labels ⌢ AreXsToClose xs) (IsRight right) ts (record { front = front; back = behind; split = split; at_front = joined; at_back = spelled })),
      refl,
    )

    by_x : (x : X) (b : Bool) (y : X) (ts : List Lexeme) → ((IsX x ⌢ IsRight (b, y)) ⌢ sign RoundClose) ts → StartsIn (other_than Id) ts ⊎ ((v : Name × ((List Expr × (List X × (Bool × X))) ⊎ (Bool × X))) × (IsName ⊗ IsBehindName) v ts × (related x (b, y) ≡ named_claim v.0 v.1))
    by_x x b y ts spelled = elim (x_cases x spelled.at_front.front spelled.at_front.at_front) [
      | inl is ↦ inr ((is.0, inr (b, y)), to_right (IsName is.0) (IsRight (b, y)) (sign RoundClose) ts (record { front = spelled.front; back = spelled.back; split = spelled.split; at_front = record { front = spelled.at_front.front; back = spelled.at_front.back; split = spelled.at_front.split; at_front = is.1; at_back = spelled.at_front.at_back }; at_back = spelled.at_back }), ap (λ z. related z (b, y)) is.2)
      | inr opened ↦ inl (subst (λ (l : List Lexeme). StartsIn (other_than Id) l) (sym spelled.split) (starts_append (other_than Id) spelled.front spelled.back (subst (λ (l : List Lexeme). StartsIn (other_than Id) l) (sym spelled.at_front.split) (starts_append (other_than Id) spelled.at_front.front spelled.at_front.back
          (starts_joined (other_than Id) (sign RoundOpen) (IsXInside x) spelled.at_front.front (λ k is. word_other Id RoundOpen is.0 k (λ e. cc) is.1) opened)))))
    ]

    back : (c : Claim) (ts : List Lexeme) → IsAInside c ts → StartsIn (other_than Id) ts ⊎ ((v : Name × ((List Expr × (List X × (Bool × X))) ⊎ (Bool × X))) × (IsName ⊗ IsBehindName) v ts × (c ≡ named_claim v.0 v.1))
    back c ts (inl (no_trees x tokens2 joined)) = inl (starts_joined (other_than Id) _ _ tokens2 (λ l is. word_other Id IsEmpty is.0 l (λ e. cc) is.1) joined)
    back c ts (inl (checked x y z tokens2 joined)) = inl (starts_joined (other_than Id) _ _ tokens2 (λ l is. word_other Id TypeCheck is.0 l (λ e. cc) is.1) joined)
    back c ts (inl (compared x right tokens2 joined)) = by_inside x right tokens2 joined.front joined.at_front joined.back joined.split joined.at_back
    back (equal x y) ts (inr joined) = by_x x true y ts joined
    back (member x y) ts (inr joined) = by_x x false y ts joined
    back (empty x) ts (inr joined) = inl (starts_joined (other_than Id) _ _ ts (λ l j. starts_joined (other_than Id) _ _ l (λ k is. word_other Id RoundOpen is.0 k (λ e. cc) is.1) j) joined)
    back (type_check x y z) ts (inr joined) = inl (starts_joined (other_than Id) _ _ ts (λ l j. starts_joined (other_than Id) _ _ l (λ k is. word_other Id RoundOpen is.0 k (λ e. cc) is.1) j) joined)

pub tree_makes : (tokens : List Lexeme) → IsNext SquareOpen tokens → Makes (AreLabels ⊗ (AreXsToClose ⊗ IsRight)) IsBehindName (λ v. inl v) closed tokens
tree_makes tokens is_next = alternative (other_than SquareOpen) tokens (λ v ts spelled. spelled) (λ m ts spelled. back m ts spelled) (stops_other_than SquareOpen tokens is_next)
  where
    back : (m : (List Expr × (List X × (Bool × X))) ⊎ (Bool × X)) (ts : List Lexeme) → IsBehindName m ts → StartsIn (other_than SquareOpen) ts ⊎ ((v : List Expr × (List X × (Bool × X))) × (AreLabels ⊗ (AreXsToClose ⊗ IsRight)) v ts × (m ≡ inl v))
    back (inl v) ts spelled = inr (v, spelled, refl)
    back (inr v) ts spelled = inl (starts_joined (other_than SquareOpen) _ _ ts (λ l j. starts_joined (other_than SquareOpen) _ _ l (relation_starts v.0) j) spelled)

pub compare_named_makes : (tokens : List Lexeme) → IsOther SquareOpen tokens → Makes (IsRight ⊗ IsSign RoundClose) IsBehindName (λ v. inr v.0) closed tokens
compare_named_makes tokens is_other = alternative (λ w. w ≡ SquareOpen) tokens (λ v ts spelled. spelled) (λ m ts spelled. back m ts spelled) (stops_other SquareOpen tokens is_other)
  where
    back : (m : (List Expr × (List X × (Bool × X))) ⊎ (Bool × X)) (ts : List Lexeme) → IsBehindName m ts → StartsIn (λ w. w ≡ SquareOpen) ts ⊎ ((v : (Bool × X) × Unit {0}) × (IsRight ⊗ IsSign RoundClose) v ts × (m ≡ inr v.0))
    back (inl v) ts spelled = inl (starts_joined (λ w. w ≡ SquareOpen) _ _ ts (λ l j. starts_joined (λ w. w ≡ SquareOpen) _ _ l ((sign_starts SquareOpen).starts tt) j) spelled)
    back (inr v) ts spelled = inr ((v, tt), spelled, refl)

-- behind the name
pub name_left : {tokens middle : List Lexeme} {n : Name} → IsNext Id tokens → IsRead IsName closed tokens n middle → Leaves IsAInside (Made (named_claim n) IsBehindName) closed tokens middle
name_left starts is_name = left_leaves (left_made (name_makes _ starts)) (first_left (ends_closed _ _) is_name)

-- a tree is compared
pub tree_left : {tokens middle after rest : List Lexeme} {n : Name} {labels : List Expr} {xs : List X} (x : X) → x ≡ literal n labels (xs_of xs) → IsNext Id tokens → IsRead IsName closed tokens n middle → IsNext SquareOpen middle → IsRead AreLabels closed middle labels after → IsRead AreXsToClose closed after xs rest → Leaves IsAInside (Made (related x) IsRight) closed tokens rest
tree_left {tokens} {rest = rest} {n = n} x is starts is_name opens labelled inner =
    subst (λ (y : X). Leaves IsAInside (Made (related y) IsRight) closed tokens rest) (sym is) (left_leaves (name_left starts is_name)
    (left_leaves (left_made (makes_of_made (tree_makes _ opens) (made_makes (named_claim n) IsBehindName))) (left_leaves (first_left (ends_closed _ _) labelled) (first_left (ends_closed _ _) inner))))

-- a name is compared, and the parenthesis is closed
pub behind_makes : (n : Name) (tokens : List Lexeme) → IsOther SquareOpen tokens → Makes (Made (related (named n)) IsRight ⊗ IsSign RoundClose) (Made (named_claim n) IsBehindName) (λ v. v.0) closed tokens
behind_makes n tokens is_other = record {
  into = λ v ts spelled. let made = spelled.at_front in record { of = inr made.of; spelled = record { front = spelled.front; back = spelled.back; split = spelled.split; at_front = made.spelled; at_back = spelled.at_back }; is = made.is };
  back = λ c other after goes made stops.
      let was = (compare_named_makes tokens is_other).back made.of other after goes made.spelled stops in let spelled = was.1 in
      ((c, tt), record { front = spelled.front; back = spelled.back; split = spelled.split; at_front = record { of = was.0.0; spelled = spelled.at_front; is = made.is ∙ ap (λ m. named_claim n m) was.2 }; at_back = spelled.at_back }, refl);
}

pub sample_behind_name : HasSample IsBehindName
sample_behind_name = sample_as (λ (v : (Bool × X) × Unit {0}). inr v.0) (λ v ts spelled. spelled) (sample_pair sample_right (sample_sign RoundClose))

pub sample_b : HasSample IsB
sample_b = sample_as (λ (v : Unit {0} × Claim). v.1) (λ v ts spelled. b_opened v.1 ts spelled) (sample_pair (sample_sign RoundOpen) sample_b_inside)

pub sample_a_inside : HasSample IsAInside
sample_a_inside = sample_as (λ c. c) (λ c ts spelled. inl spelled) sample_b_inside

pub sample_a : HasSample IsA
sample_a = sample_as (λ c. c) (λ c ts spelled. inl spelled) sample_b
