-- A session for which more was built.
use Rattle.std.proofs.Common.{inl, inr, ℕ, List, take, sym, subst}
use Rattle.model_grammar.specs.Syntax.{Item}
use Rattle.model_names.specs.Kinds.{Kind, defined_kind}
use Rattle.model_run.specs.Outcomes.{Outcome, trees_in}
use Rattle.fast_eval.proofs.Keeping.{built_grown, ready_grown}
use Rattle.tree_values.specs.Trees.{Tells, AreTypedTrees, ArePrinted}
use Rattle.tree_values.specs.declared.trees.Trees.{Trees}
use Rattle.fast_session.specs.declared.items.Kept.{Kept}
use Rattle.fast_session.specs.declared.session.Session.{Session}
use Rattle.fast_session.specs.Items.{IsBuiltMore}
use Rattle.fast_session.specs.Kept.{IsKept}
use Rattle.fast_session.specs.Sessions.{items_in, IsAt, IsReadyFor, IsPrepared}

kept_more : (items done : List Item) (old new : Kept) → IsBuiltMore items old new → IsKept items done old → IsKept items done new
kept_more items done old new more was = record {
  built = more.built;
  typed = subst (AreTypedTrees items) (sym more.trees) was.typed;
  defined = λ item d at is. built_grown old.built new.built more.grown (defined_kind d.into) d.name.text (was.defined item d at is);
  printed = subst (λ ts. ArePrinted ts done) (sym more.trees) was.printed;
}

-- the same session with more that is built
abbrev pub with_kept : Session → Kept → Session
with_kept s k = record s { kept = k }

module _ (s : Session) (k : Kept) (more : IsBuiltMore (items_in s) s.kept k) where
  pub at_more : (done : List Outcome) → IsAt s done → IsAt (with_kept s k) done
  at_more done at = record {
    over = record { shallow = at.over.shallow };
    running = at.running;
    count = at.count;
    low = at.low;
    kept = kept_more (items_in s) (take s.next (items_in s)) s.kept k more at.kept;
    told = subst (λ (ts : Trees). Tells ts (trees_in done)) (sym more.trees) at.told;
  }

  pub ready_more : (kind : Kind) (name : List ℕ) → IsReadyFor kind s name → IsReadyFor kind (with_kept s k) name
  ready_more kind name r = record { done = r.done; at = at_more r.done r.at; named = r.named; known = ready_grown (items_in s) s.kept.built k.built more.grown kind name r.known }

  pub prepared_more : (kind : Kind) (name : List ℕ) → IsPrepared kind s name → IsPrepared kind (with_kept s k) name
  prepared_more kind name (inl r) = inl (ready_more kind name r)
  prepared_more kind name (inr over) = inr over
