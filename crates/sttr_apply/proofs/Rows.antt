-- Rows that are added one by one, and their nodes.
use Rattle.std.specs.Prelude.{IfNone, IfSome}
use Rattle.apply_laws.proofs.Products.{length_products}
use Rattle.std.proofs.Common.{Option, Some, None, ℕ, zero, suc, ◌≡◌, ◌+◌, ◌*◌, ◌<◌, ◌≤◌, List, [], ◌∷◌, ◌++◌, map, length, get_or, take, refl, sym, ap, ap₂, subst, ◌∙◌, arith, append_assoc, append-nil}
use Rattle.std.proofs.lemmas.List.{length-map, map-append, map-id, take_more}
use Rattle.model_tree.specs.Tree.{node_count_all}
use Rattle.model_sttr.specs.Cuts.{Cut, Cuts, cut, trees_of_cuts}
use Rattle.apply_laws.specs.Lists.{sum_of}
use Rattle.apply_laws.specs.Meant.{meant, all_meant}
use Rattle.apply_laws.specs.Listing.{products}
use Rattle.sttr_apply.specs.Plain.{out_cut, row_cuts}
use Rattle.sttr_apply.specs.Products.{row_nodes, product_nodes, meant_rows}
use Rattle.sttr_apply.specs.declared.outs.Out.{Out}
use Rattle.sttr_apply.specs.declared.outs.Row.{Row}

module _ {X : Type 0} (f : X → ℕ) where
  pub sum_append : (xs ys : List X) → sum_of f (xs ++ ys) ≡ sum_of f xs + sum_of f ys
  sum_append [] ys = omega arith
  sum_append (x ∷ xs) ys = omega (arith, sum_append xs ys)

  pub sum_push : (xs : List X) (x : X) → sum_of f (xs ++ x ∷ []) ≡ sum_of f xs + f x
  sum_push xs x = omega (arith, sum_append xs (x ∷ []))

  -- of the first elements and the next one
  pub sum_more : (xs : List X) (i : ℕ) (x : X) → i < length xs → x ≡ get_or xs i x → sum_of f (take (i + 1) xs) ≡ sum_of f (take i xs) + f x
  sum_more xs i x low at = ap (sum_of f) (take_more xs i x low ∙ ap (λ z. take i xs ++ z ∷ []) (sym at)) ∙ sum_push (take i xs) x

  pub sum_take : (xs : List X) (i : ℕ) → sum_of f (take i xs) ≤ sum_of f xs
  sum_take xs zero = omega arith
  sum_take [] (suc i) = omega arith
  sum_take (x ∷ xs) (suc i) = omega (arith, sum_take xs i)

module _ {V L : Type 0} (label : V → L) where
  -- what a row with a first part means
  pub meant_first : (row : Cuts V) (x : Cut V) (ys : Cuts V) (k : Cut L) (ks : Cuts L) → row ≡ cut x ys → meant label x ≡ k → all_meant label ys ≡ ks → all_meant label row ≡ cut k ks
  meant_first row x ys k ks e f g = ap (all_meant label) e ∙ λ i. cut (f i) (g i)

  pub rows_push : (rows : List (Row V)) (row : Row V) → meant_rows label (rows ++ row ∷ []) ≡ meant_rows label rows ++ all_meant label (row_cuts row) ∷ []
  rows_push rows row = ap (map (all_meant label)) (map-append row_cuts rows (row ∷ [])) ∙ map-append (all_meant label) (map row_cuts rows) (row_cuts row ∷ [])

  -- one more row
  pub rows_more : (before : List (Cuts L)) (k : Cut L) (old new done : List (Row V)) (row rest : Row V) → new ≡ old ++ row ∷ [] → all_meant label (row_cuts row) ≡ cut k (all_meant label (row_cuts rest))
      → meant_rows label old ≡ before ++ map (cut k) (meant_rows label done) → meant_rows label new ≡ before ++ map (cut k) (meant_rows label (done ++ rest ∷ []))
  rows_more before k old new done row rest is means h =
      ap (meant_rows label) is ∙ rows_push old row ∙ ap₂ (λ a b. a ++ b ∷ []) h means
      ∙ append_assoc before (map (cut k) (meant_rows label done)) (cut k (all_meant label (row_cuts rest)) ∷ [])
      ∙ ap (λ xs. before ++ xs) (sym (map-append (cut k) (meant_rows label done) (all_meant label (row_cuts rest) ∷ [])) ∙ ap (map (cut k)) (sym (rows_push done rest)))

  pub rows_more_at : (before : List (Cuts L)) (k : Cut L) (old new rests : List (Row V)) (i : ℕ) (row rest : Row V) → i < length rests → rest ≡ get_or rests i rest → new ≡ old ++ row ∷ [] → all_meant label (row_cuts row) ≡ cut k (all_meant label (row_cuts rest))
      → meant_rows label old ≡ before ++ map (cut k) (meant_rows label (take i rests)) → meant_rows label new ≡ before ++ map (cut k) (meant_rows label (take (i + 1) rests))
  rows_more_at before k old new rests i row rest low at is means h = rows_more before k old new (take i rests) row rest is means h
      ∙ ap (λ xs. before ++ map (cut k) (meant_rows label xs)) (sym (take_more rests i rest low ∙ ap (λ z. take i rests ++ z ∷ []) (sym at)))

  pub products_push : (xs : List (Cut L)) (x : Cut L) (yss : List (Cuts L)) → products (xs ++ x ∷ []) yss ≡ products xs yss ++ map (cut x) yss
  products_push [] x yss = append-nil (map (cut x) yss)
  products_push (y ∷ xs) x yss = ap (λ z. map (cut y) yss ++ z) (products_push xs x yss) ∙ sym (append_assoc (map (cut y) yss) (products xs yss) (map (cut x) yss))

  -- one more first part
  pub products_more : (xs : List (Out V)) (x : Out V) (yss : List (Cuts L)) → products (map (meant label) (map out_cut (xs ++ x ∷ []))) yss ≡ products (map (meant label) (map out_cut xs)) yss ++ map (cut (meant label (out_cut x))) yss
  products_more xs x yss = ap (λ z. products z yss) (ap (map (meant label)) (map-append out_cut xs (x ∷ [])) ∙ map-append (meant label) (map out_cut xs) (out_cut x ∷ [])) ∙ products_push (map (meant label) (map out_cut xs)) (meant label (out_cut x)) yss

  pub products_more_at : (xs : List (Out V)) (i : ℕ) (x : Out V) (yss : List (Cuts L)) → i < length xs → x ≡ get_or xs i x → products (map (meant label) (map out_cut (take (i + 1) xs))) yss ≡ products (map (meant label) (map out_cut (take i xs))) yss ++ map (cut (meant label (out_cut x))) yss
  products_more_at xs i x yss low at = ap (λ z. products (map (meant label) (map out_cut z)) yss) (take_more xs i x low ∙ ap (λ z. take i xs ++ z ∷ []) (sym at)) ∙ products_more (take i xs) x yss

  -- what products mean are products of what is meant
  meant_rows_of : (x : Cut V) (yss : List (Cuts V)) → map (all_meant label) (map (cut x) yss) ≡ map (cut (meant label x)) (map (all_meant label) yss)
  meant_rows_of x [] = refl
  meant_rows_of x (ys ∷ yss) = ap (λ z. cut (meant label x) (all_meant label ys) ∷ z) (meant_rows_of x yss)

  pub meant_products : (xs : List (Cut V)) (yss : List (Cuts V)) → map (all_meant label) (products xs yss) ≡ products (map (meant label) xs) (map (all_meant label) yss)
  meant_products [] yss = refl
  meant_products (x ∷ xs) yss = map-append (all_meant label) (map (cut x) yss) (products xs yss) ∙ ap₂ (λ a b. a ++ b) (meant_rows_of x yss) (meant_products xs yss)

module _ {V : Type 0} where
  row_nodes_are : (x : Out V) (ys : List (Row V)) → row_nodes x ys ≡ sum_of (λ zs. node_count_all (trees_of_cuts zs)) (map (cut (out_cut x)) (map row_cuts ys))
  row_nodes_are x [] = refl
  row_nodes_are x (y ∷ ys) = omega (arith, x.nodes_are, y.nodes_are, row_nodes_are x ys)

  -- the nodes of a product
  pub product_nodes_are : (xs : List (Out V)) (ys : List (Row V)) → product_nodes xs ys ≡ sum_of (λ zs. node_count_all (trees_of_cuts zs)) (products (map out_cut xs) (map row_cuts ys))
  product_nodes_are [] ys = refl
  product_nodes_are (x ∷ xs) ys = omega (arith, row_nodes_are x ys, product_nodes_are xs ys, sum_append (λ zs. node_count_all (trees_of_cuts zs)) (map (cut (out_cut x)) (map row_cuts ys)) (products (map out_cut xs) (map row_cuts ys)))

-- ---- lists that are gone through from the front

module _ {X : Type 0} where
  pub next_whole : (before rest more : List X) (x : X) (last all : List X) → before ++ (rest ++ last) ≡ all → rest ≡ x ∷ more → (before ++ x ∷ []) ++ (more ++ last) ≡ all
  next_whole before rest more x last all e is = append_assoc before (x ∷ []) (more ++ last) ∙ (ap (λ r. before ++ (r ++ last)) (sym is) ∙ e)

  -- the next element is behind those before it
  pub next_sum : (f : X → ℕ) (before rest more : List X) (x : X) (last all : List X) → before ++ (rest ++ last) ≡ all → rest ≡ x ∷ more → sum_of f before + f x ≤ sum_of f all
  next_sum f before rest more x last all e is =
      let whole = ap (sum_of f) (sym (next_whole before rest more x last all e is)) in
      omega (arith, whole, sum_append f (before ++ x ∷ []) (more ++ last), sum_push f before x)

pub ended : {X : Type 0} (yielded all whole : List X) (last : X) → map (λ y. y) yielded ≡ all → whole ≡ all ++ last ∷ [] → yielded ++ last ∷ [] ≡ whole
ended yielded all whole last e w = ap (λ xs. xs ++ last ∷ []) (sym (map-id yielded) ∙ e) ∙ sym w

module _ {X : Type 0} (r : Option X) where
  pub at_none : {P : Type 0} → r ≡ None → IfNone r P → P
  at_none {P} e h = subst (λ r. IfNone r P) e h

  pub at_some : (P : X → Type 0) (x : X) → r ≡ Some x → IfSome r P → P x
  at_some P x e h = subst (λ r. IfSome r P) e h

-- as many of them as of the products
pub rows_few : {V L : Type 0} (label : V → L) (rows : List (Row V)) (xs : List (Out V)) (ys : List (Row V)) → meant_rows label rows ≡ products (map (meant label) (map out_cut xs)) (meant_rows label ys) → length rows ≡ length xs * length ys
rows_few label rows xs ys e =
    let many = ap length e ∙ length_products (map (meant label) (map out_cut xs)) (meant_rows label ys) in
    sym (length-map rows row_cuts) ∙ (sym (length-map (map row_cuts rows) (all_meant label)) ∙ (many ∙ ap₂ (λ a b. a * b) (length-map (map out_cut xs) (meant label) ∙ length-map xs out_cut) (length-map (map row_cuts ys) (all_meant label) ∙ length-map ys row_cuts)))
