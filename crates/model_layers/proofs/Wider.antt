-- What an operand is made of is among what the whole expression is made of, and so are causes.
use Rattle.std.proofs.Common.{ℕ, List, Contains}
use Rattle.std.proofs.lemmas.List.Elements.{All-weaker}
use Rattle.model_tree.specs.Label.{Label}
use Rattle.model_tree.specs.Tree.{LabelTree}
use Rattle.model_sta.proofs.Counts.{each_two_weaker}
use Rattle.model_grammar.specs.Syntax.{X, Item}
use Rattle.model_run.specs.Parts.{language_of_operand, opened_language, relation_of_operand, opened_relation, AreApart}
use Rattle.model_chain.specs.Literals.{Compare, Literal}
use Rattle.model_run.specs.Seen.{IsCompare, IsSameCompare, list_of_operand, list_opened, guard_of_operand, guard_opened, compare_of_operand, compare_opened, form_of_operand, form_opened, Agree}
use Rattle.model_layers.specs.Causes.{IsAmong, AreAmong, CausesWiden, AreWidened}

pub are_among : (items : List Item) → AreAmong items
are_among items = record {
  operand = λ e x at. record {
    languages = λ type d is. language_of_operand e x type d at is;
    relations = λ from into r is. relation_of_operand e x from into r at is;
    guards = λ type g is. guard_of_operand e x type g at is;
    lists = λ from into m is. list_of_operand e x from into m at is;
    compares = λ type c is. compare_of_operand e x type c at is;
    forms = λ g is. form_of_operand e x g at is;
  };
  opened = λ n x opens. record {
    languages = λ type d is. opened_language n x type d opens is;
    relations = λ from into r is. opened_relation n x from into r opens is;
    guards = λ type g is. guard_opened n x type g opens is;
    lists = λ from into m is. list_opened n x from into m opens is;
    compares = λ type c is. compare_opened n x type c opens is;
    forms = λ g is. form_opened n x g opens is;
  };
  same = λ e. record {
    languages = λ type d is. is;
    relations = λ from into r is. is;
    guards = λ type g is. is;
    lists = λ from into m is. is;
    compares = λ type c is. is;
    forms = λ g is. is;
  };
  further = λ x y z first second. record {
    languages = λ type d is. second.languages type d (first.languages type d is);
    relations = λ from into r is. second.relations from into r (first.relations from into r is);
    guards = λ type g is. second.guards type g (first.guards type g is);
    lists = λ from into m is. second.lists from into m (first.lists from into m is);
    compares = λ type c is. second.compares type c (first.compares type c is);
    forms = λ g is. second.forms g (first.forms g is);
  };
}

module _ (items : List Item) where
  -- the literal is over a comparison of one of the expressions
  abbrev IsOverOne : List X → List ℕ → Literal → Type 0
  IsOverOne es type l = (e : X) × Contains es e × (c : Compare) × IsCompare items e type c × IsSameCompare c l.compare

module _ (items : List Item) (es fs : List X) (among : (e : X) → Contains es e → (f : X) × Contains fs f × IsAmong items e f) where
  apart : (type : List ℕ) (s t : LabelTree) → AreApart items es type s t → AreApart items fs type s t
  apart type s t (e, at, d, is, alone) = let (f, there, all) = among e at in (f, there, d, all.languages type d is, alone)

  agree : (type : List ℕ) (l m : Label) → Agree items fs type l m → Agree items es type l m
  agree type l m each e at g is = let (f, there, all) = among e at in each f there g (all.guards type g is)

  over : (type : List ℕ) (l : Literal) → IsOverOne items es type l → IsOverOne items fs type l
  over type l (e, at, c, is, same) = let (f, there, all) = among e at in (f, there, c, all.compares type c is, same)

  pub widened : CausesWiden items es fs
  widened = record {
    trees = λ most has. record {
      type = has.type;
      trees = has.trees;
      typed = has.typed;
      apart = each_two_weaker (AreApart items es has.type) (AreApart items fs has.type) (apart has.type) has.trees has.apart;
      more = has.more;
    };
    far = λ type (l, is, far). (l, is, λ m own kept each. far m own kept (agree type l m each));
    wide = λ width has. record {
      type = has.type;
      chain = has.chain;
      over = All-weaker (IsOverOne items es has.type) (IsOverOne items fs has.type) (over has.type) has.chain.literals has.over;
      once = has.once;
      passes = has.passes;
      far = λ narrow. (let (l, is, far) = has.far narrow in (l, is, λ m own kept each. far m own kept (agree has.type l m each)));
    };
  }

pub are_widened : AreWidened
are_widened items es fs among = widened items es fs among
