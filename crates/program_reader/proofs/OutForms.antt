-- Of what output terms are made.
use Rattle.std.proofs.Common.{◌≡◌, List, [], ◌∷◌, ◌++◌, refl, sym, ap, ◌∙◌, subst, ◌⊎◌, inl, inr}
use Rattle.model_program.specs.declared.Word.TheVariants.{Id, RoundOpen, RoundClose, SquareOpen}
use Rattle.model_program.specs.Lexeme.{Lexeme}
use Rattle.model_program.specs.Syntax.{Name}
use Rattle.model_program.specs.Joined.{◌⌢◌, IsNext, IsOther, ◌⊗◌}
use Rattle.read_forms.specs.Reads.{StartsIn, closed}
use Rattle.model_program.specs.Grammar.{IsSign, sign, IsName, Many}
use Rattle.read_forms.specs.Parts.{HasSample, AllStartIn, other_than}
use Rattle.read_forms.proofs.Forms.{Makes, sample_as, sample_pair, alternative, ends_closed, starts_joined, starts_wider, stops_other, stops_other_than, remade}
use Rattle.read_forms.proofs.Words.{sign_starts, sample_sign}
use Rattle.read_forms.proofs.Lists.{to_left, to_right}
use Rattle.read_forms.proofs.Fronts.{makes_of_made}
use Rattle.model_grammar.specs.Syntax.{Expr, Out, child, call, node, Outs, no_out, and_out, outs_of}
use Rattle.model_grammar.specs.Terms.{AreLabels, IsOut, unchanged, called, made, AreOuts, no_outs, outs_on}
use Rattle.label_reader.proofs.Names.{sample_name, name_starts}
use Rattle.label_reader.specs.Lists.{closing_of}
use Rattle.label_reader.proofs.Closings.{IsClosable, sample_to_close}
use Rattle.program_reader.specs.Nodes.{AreOutsToClose, IsBehindOutName}
use Rattle.program_reader.specs.Names.{IsNameBehind, IsNameTo}

pub child_makes : (tokens : List Lexeme) → IsNext Id tokens → Makes IsName IsOut child closed tokens
child_makes tokens is_next = alternative (other_than Id) tokens (λ n ts spelled. unchanged n ts spelled) (λ b ts spelled. back b ts spelled) (stops_other_than Id tokens is_next)
  where
    back : (b : Out) (ts : List Lexeme) → IsOut b ts → StartsIn (other_than Id) ts ⊎ ((n : Name) × IsName n ts × (b ≡ child n))
    back b ts (unchanged n tokens2 is) = inr (n, is, refl)
    back b ts (called left right q y head argument is close is_q is_y) = inl (λ e. let f : RoundOpen ≡ Id = sym is ∙ e in cc)
    back b ts (made left right n labels outs head row children is close is_n are_labels are_outs) = inl (λ e. let f : RoundOpen ≡ Id = sym is ∙ e in cc)

abbrev pub out_parts : Unit {0} × (Name × (Name ⊎ (List Expr × List Out))) → List Lexeme → Type 0
out_parts = IsSign RoundOpen ⊗ (IsName ⊗ IsBehindOutName)

abbrev pub out_of : Name → Name ⊎ (List Expr × List Out) → Out
out_of n (inl y) = call n y
out_of n (inr v) = node n v.0 (outs_of v.1)

are_outs : (outs : List Out) (ts : List Lexeme) → Many IsOut outs ts → AreOuts (outs_of outs) ts
are_outs [] ts none = subst (λ (l : List Lexeme). AreOuts no_out l) (sym none) no_outs
are_outs (out ∷ outs) ts joined = subst (λ (l : List Lexeme). AreOuts (and_out out (outs_of outs)) l) (sym joined.split) (outs_on out (outs_of outs) joined.front joined.back joined.at_front (are_outs outs joined.back joined.at_back))

-- a row of outputs as a list
record OutList (outs : Outs) (ts : List Lexeme) : Type 0 where
  list : List Out
  is : outs ≡ outs_of list
  spelled : Many IsOut list ts

outs_are : (outs : Outs) (ts : List Lexeme) → AreOuts outs ts → OutList outs ts
outs_are outs ts no_outs = record { list = []; is = refl; spelled = refl }
outs_are outs ts (outs_on out more front back is are) = let later = outs_are more back are in
    record { list = out ∷ later.list; is = ap (λ l. and_out out l) later.is; spelled = record { front = front; back = back; split = refl; at_front = is; at_back = later.spelled } }

open_makes : (tokens : List Lexeme) → IsOther Id tokens → Makes out_parts IsOut (λ v. out_of v.1.0 v.1.1) closed tokens
open_makes tokens is_other = alternative (λ w. w ≡ Id) tokens (λ v ts spelled. into v.1.0 v.1.1 ts spelled) (λ b ts spelled. back b ts spelled) (stops_other Id tokens is_other)
  where
    into : (n : Name) (m : Name ⊎ (List Expr × List Out)) (ts : List Lexeme) → (sign RoundOpen ⌢ (IsName n ⌢ IsBehindOutName m)) ts → IsOut (out_of n m) ts
    into n (inl y) ts spelled =
        let left = spelled.at_front in let named = spelled.at_back in let argument = named.at_back in let right = argument.at_back in
        subst (λ (l : List Lexeme). IsOut (call n y) l)
        (sym (spelled.split ∙ ap (λ l. l ++ spelled.back) left.1.0 ∙ ap (λ l. left.0 ∷ l) (named.split ∙ ap (λ l. named.front ++ l) (argument.split ∙ ap (λ l. argument.front ++ l) right.1.0))))
        (called left.0 right.0 n y named.front argument.front left.1.1 right.1.1 named.at_front argument.at_front)
    into n (inr v) ts spelled =
        let left = spelled.at_front in let named = spelled.at_back in let row = named.at_back in let children = row.at_back in let right = children.at_back in
        subst (λ (l : List Lexeme). IsOut (node n v.0 (outs_of v.1)) l)
        (sym (spelled.split ∙ ap (λ l. l ++ spelled.back) left.1.0 ∙ ap (λ l. left.0 ∷ l) (named.split ∙ ap (λ l. named.front ++ l) (row.split ∙ ap (λ l. row.front ++ l) (children.split ∙ ap (λ l. children.front ++ l) right.1.0)))))
        (made left.0 right.0 n v.0 (outs_of v.1) named.front row.front children.front left.1.1 right.1.1 named.at_front row.at_front (are_outs v.1 children.front children.at_front))

    back : (b : Out) (ts : List Lexeme) → IsOut b ts → StartsIn (λ w. w ≡ Id) ts ⊎ ((v : Unit {0} × (Name × (Name ⊎ (List Expr × List Out)))) × out_parts v ts × (b ≡ out_of v.1.0 v.1.1))
    back b ts (unchanged n tokens2 is) = inl (name_starts.starts n tokens2 is)
    back b ts (called left right q y head argument is close is_q is_y) = inr (
      (tt, (q, inl y)),
      record {
        front = left ∷ [];
        back = head ++ (argument ++ right ∷ []);
        split = refl;
        at_front = (left, (refl, is));
        at_back = record { front = head; back = argument ++ right ∷ []; split = refl; at_front = is_q; at_back = record { front = argument; back = right ∷ []; split = refl; at_front = is_y; at_back = (right, (refl, close)) } };
      },
      refl,
    )
    back b ts (made left right n labels outs head row children is close is_n are_labels are) = let list = outs_are outs children are in inr (
      (tt, (n, inr (labels, list.list))),
      record {
        front = left ∷ [];
        back = head ++ (row ++ (children ++ right ∷ []));
        split = refl;
        at_front = (left, (refl, is));
        at_back = record { front = head; back = row ++ (children ++ right ∷ []); split = refl; at_front = is_n; at_back = record { front = row; back = children ++ right ∷ []; split = refl; at_front = are_labels; at_back = record { front = children; back = right ∷ []; split = refl; at_front = list.spelled; at_back = (right, (refl, close)) } } };
      },
      ap (λ l. node n labels l) list.is,
    )

-- the opening parenthesis and the name, and what stands behind them
pub opened_makes : (tokens : List Lexeme) → IsOther Id tokens → Makes (IsNameBehind RoundOpen ⊗ IsBehindOutName) IsOut (λ v. out_of v.0 v.1) closed tokens
opened_makes tokens is_other = makes_of_made {to = λ v. (tt, (v.0, v.1))} (remade
    (λ v ts spelled. to_right (sign RoundOpen) (IsName v.0) (IsBehindOutName v.1) ts spelled)
    (λ b ts spelled. (b.1, to_left (sign RoundOpen) (IsName b.1.0) (IsBehindOutName b.1.1) ts spelled, refl))) (open_makes tokens is_other)

pub call_makes : (tokens : List Lexeme) → IsNext Id tokens → Makes (IsNameTo RoundClose) IsBehindOutName (λ n. inl n) closed tokens
call_makes tokens is_next = alternative (other_than Id) tokens (λ n ts spelled. spelled) (λ b ts spelled. back b ts spelled) (stops_other_than Id tokens is_next)
  where
    back : (b : Name ⊎ (List Expr × List Out)) (ts : List Lexeme) → IsBehindOutName b ts → StartsIn (other_than Id) ts ⊎ ((n : Name) × IsNameTo RoundClose n ts × (b ≡ inl n))
    back (inl y) ts spelled = inr (y, spelled, refl)
    back (inr v) ts spelled = inl (starts_wider (λ w. w ≡ SquareOpen) (other_than Id) ts (λ w a e. let f : SquareOpen ≡ Id = sym a ∙ e in cc) (starts_joined (λ w. w ≡ SquareOpen) _ _ ts (λ l labels. starts_joined (λ w. w ≡ SquareOpen) _ _ l ((sign_starts SquareOpen).starts tt) labels) spelled))

pub node_makes : (tokens : List Lexeme) → IsOther Id tokens → Makes (AreLabels ⊗ AreOutsToClose) IsBehindOutName (λ v. inr v) closed tokens
node_makes tokens is_other = alternative (λ w. w ≡ Id) tokens (λ v ts spelled. spelled) (λ b ts spelled. back b ts spelled) (stops_other Id tokens is_other)
  where
    back : (b : Name ⊎ (List Expr × List Out)) (ts : List Lexeme) → IsBehindOutName b ts → StartsIn (λ w. w ≡ Id) ts ⊎ ((v : List Expr × List Out) × (AreLabels ⊗ AreOutsToClose) v ts × (b ≡ inr v))
    back (inl y) ts spelled = inl (starts_joined (λ w. w ≡ Id) _ _ ts (name_starts.starts y) spelled)
    back (inr v) ts spelled = inr (v, spelled, refl)

out_starts : (out : Out) (ts : List Lexeme) → IsOut out ts → StartsIn (other_than RoundClose) ts
out_starts out ts (unchanged n tokens is) = starts_wider (λ w. w ≡ Id) (other_than RoundClose) tokens (λ w a e. let f : Id ≡ RoundClose = sym a ∙ e in cc) (name_starts.starts n tokens is)
out_starts out ts (called left right q y head argument is close is_q is_y) = λ e. let f : RoundOpen ≡ RoundClose = sym is ∙ e in cc
out_starts out ts (made left right n labels outs head row children is close is_n are_labels are) = λ e. let f : RoundOpen ≡ RoundClose = sym is ∙ e in cc

pub outs_closable : IsClosable IsOut closed RoundClose
outs_closable = record { apart = record { starts = λ out ts is. out_starts out ts is }; ends = ends_closed (closing_of IsOut RoundClose) closed }

pub out_begins : AllStartIn (other_than RoundClose) IsOut
out_begins = record { starts = λ out ts is. out_starts out ts is }

pub sample_out : HasSample IsOut
sample_out = sample_as child (λ n ts spelled. unchanged n ts spelled) sample_name

pub sample_outs : HasSample AreOutsToClose
sample_outs = sample_to_close IsOut RoundClose

pub sample_behind : HasSample IsBehindOutName
sample_behind = sample_as (λ (v : Name × Unit {0}). inl v.0) (λ v ts spelled. spelled) (sample_pair sample_name (sample_sign RoundClose))
