-- What a step makes of a session.
use Rattle.std.proofs.Common.{◌≡◌, ◌≤◌, ◌<◌, ◌+◌, ℕ, suc, true, List, ◌∷◌, Option, Some, None, map, take, length, get_or, add-one, refl, sym, ap, subst, ◌∙◌, arith}
use Rattle.std.specs.List.{list_all}
use Rattle.model_tree.specs.Limits.{most_classes}
use Rattle.model_grammar.specs.Syntax.{Item}
use Rattle.model_run.specs.Outcomes.{Outcome}
use Rattle.program_check.specs.declared.programs.Checked.{Checked}
use Rattle.fast_syntax.specs.declared.items.Item as syntax
use Rattle.fast_syntax.specs.declared.items.Program.{Program}
use Rattle.fast_syntax.specs.Plain.{plain_item, plain_program}
use Rattle.fast_build.specs.Items.{items_of}
use Rattle.fast_build.proofs.Elements.{mapped_at, mapped_below}
use Rattle.fast_session.specs.declared.answers.Line.{Line}
use Rattle.fast_session.specs.declared.answers.Stopped.{Stopped}
use Rattle.fast_session.specs.declared.answers.Stopped.TheVariants.{By, Memory}
use Rattle.fast_session.specs.declared.session.Session.{Session}
use Rattle.fast_session.specs.Answers.{given, step_of, halt_at}
use Rattle.fast_session.specs.Items.{IsDone, IsStoppedAt}
use Rattle.fast_session.specs.Kept.{IsKept}
use Rattle.fast_session.specs.Sessions.{items_in, IsAt, IsItemAt, IsNext, IsStep, IsHalt}
use Rattle.fast_eval.proofs.Labels.{done_next}

-- the item at a place of a checked program
pub item_there : (c : Checked) (p : Program) (xs : List syntax.Item) (n len : ℕ) (x : syntax.Item) → p ≡ c.program → xs ≡ p.items.items → n < len → len ≡ length xs → x ≡ get_or xs n x → IsItemAt (items_of c) n (plain_item x)
item_there c p xs n len x same whole under many is =
    let low : n < length xs = subst (λ k. n < k) many under in
    subst (λ (q : Program). IsItemAt (plain_program q) n (plain_item x)) same (subst (λ ys. IsItemAt (map plain_item ys) n (plain_item x)) whole (mapped_below plain_item xs n low, sym (mapped_at plain_item xs n x (plain_item x) is low)))

module _ (old : Session) (done : List Outcome) (at : IsAt old done) (item : Item) (low : old.next < length (items_in old)) (is : item ≡ get_or (items_in old) old.next item) where
  -- the next item, as outcomes count
  here : IsItemAt (items_in old) (length done) item
  here = (subst (λ n. n < length (items_in old)) (sym at.count) low, is ∙ ap (λ n. get_or (items_in old) n item) (sym at.count))

  pub halt_is : (s : Stopped) → IsStoppedAt (items_in old) old.limit item old.kept s → IsHalt old done (halt_at item.place s)
  halt_is (By cause) stopped = (item, here, refl, stopped.0 done at.told, stopped.1)
  halt_is Memory stopped = tt

  module _ (new : Session) (same : new.checked ≡ old.checked) (limited : new.limit ≡ old.limit) (next : new.next ≡ old.next + 1) (running : new.ended ≡ None) where
    pub at_next : (o : Outcome) → IsDone (items_in old) item old.kept new.kept o → IsAt new (o ∷ done)
    at_next o did = record {
      over = record { shallow = subst (λ n. n ≤ most_classes) (sym limited) at.over.shallow };
      running = running;
      count = ap suc at.count ∙ (sym (add-one old.next) ∙ sym next);
      low = subst (λ its. new.next ≤ length its) (sym (ap items_of same)) (omega (arith, next, low));
      kept = subst (λ its. IsKept its (take new.next its) new.kept) (sym (ap items_of same)) (subst (λ n. IsKept (items_in old) (take n (items_in old)) new.kept) (sym next)
          (subst (λ b. IsKept (items_in old) b new.kept) (sym (done_next (items_in old) old.next item low is)) (did.kept (take old.next (items_in old)) at.kept)));
      told = did.told done at.told;
    }

    next_is : (o : Outcome) → IsDone (items_in old) item old.kept new.kept o → IsNext old new done o
    next_is o did = record { item = item; is = here; may = did.may done at.told; unowed = did.unowed done at.told; typed = did.typed; at = at_next o did }

    pub step_is : (line : Option Line) → IsDone (items_in old) item old.kept new.kept (given (items_in old) line) → IsStep old new done (step_of line)
    step_is None did = next_is (given (items_in old) None) did
    step_is (Some l) did = next_is (given (items_in old) (Some l)) did
