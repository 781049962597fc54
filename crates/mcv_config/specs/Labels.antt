-- Trees of labels, and that they can be distinguished where their labels can. It says nothing of what a label means.
use Rattle.std.specs.Prelude.{◌≡◌, refl}
use Rattle.std.specs.Coded.{Coded}
use base.Stored.{Gv, gnil, gnum, gcons}
use Rattle.std.proofs.Common.{ap, subst, sym}

mutual
  -- a label with the trees below it
  pub data Node (L : Type 0) : Type 0 where
    node : L → Nodes L → Node L

  pub data Nodes (L : Type 0) : Type 0 where
    no_node : Nodes L
    beside : Node L → Nodes L → Nodes L

abbrev mutual
  pub code_of : {L : Type 0} → Coded L → Node L → Gv
  code_of c (node l ns) = gcons (c.code l) (codes_of c ns)

  pub codes_of : {L : Type 0} → Coded L → Nodes L → Gv
  codes_of c no_node = gnil
  codes_of c (beside n ns) = gcons (code_of c n) (codes_of c ns)

abbrev head : Gv → Gv
head gnil = gnil
head (gnum n) = gnil
head (gcons a b) = a

abbrev tail : Gv → Gv
tail gnil = gnil
tail (gnum n) = gnil
tail (gcons a b) = b

abbrev IsCons : Gv → Type 0
IsCons gnil = ⊥
IsCons (gnum n) = ⊥
IsCons (gcons a b) = Unit {0}

mutual
  pub code_of-inj : {L : Type 0} → (c : Coded L) → (m n : Node L) → code_of c m ≡ code_of c n → m ≡ n
  code_of-inj c (node k ms) (node l ns) e = λ i. node (c.inj k l (ap head e) i) (codes_of-inj c ms ns (ap tail e) i)

  pub codes_of-inj : {L : Type 0} → (c : Coded L) → (ms ns : Nodes L) → codes_of c ms ≡ codes_of c ns → ms ≡ ns
  codes_of-inj c no_node no_node e = refl
  codes_of-inj c no_node (beside n ns) e = absurd (subst IsCons (sym e) tt)
  codes_of-inj c (beside m ms) no_node e = absurd (subst IsCons e tt)
  codes_of-inj c (beside m ms) (beside n ns) e = λ i. beside (code_of-inj c m n (ap head e) i) (codes_of-inj c ms ns (ap tail e) i)

abbrev pub node_code : {L : Type 0} → Coded L → Coded (Node L)
node_code c = record { code = code_of c; inj = code_of-inj c }
