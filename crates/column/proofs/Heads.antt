-- The head of a column is its node of the last index, so what holds at every node holds there.
use Rattle.std.proofs.Common.{◌≡◌, ℕ, suc, List, [], ◌∷◌, length, get_or, sym, refl, ap, ◌∙◌, subst, arith}
use Rattle.column.specs.declared.Part.{Part}
use Rattle.column.specs.declared.Node.{Node}
use Rattle.column.specs.Case.{Case}
use Rattle.column.specs.Nodes.{Nodes, last, head_node, node, nowhere}
use Rattle.column.specs.Balanced.{Balanced, ShaftBalance, Carries}
use Rattle.column.specs.Marches.{lower_step, upper_step, lower_tip, upper_tip, lower_march, upper_march}
use Rattle.column.specs.Bracket.{Between, Inside}
use Rattle.column.proofs.Nodewise.{length_climb}

last_at : (n : Node) (ms : List Node) → get_or (n ∷ ms) (length ms) nowhere ≡ last n ms
last_at n [] = refl
last_at n (m ∷ ms) = last_at m ms

at_head : (x : Nodes) (i : ℕ) → length x.above ≡ i → node x i ≡ head_node x
at_head x i e = ap (λ (j : ℕ). node x j) (sym e) ∙ last_at x.tip x.above

as_slices : (c : Case) (k : ℕ) (n : Node) (gs : List Part) (ms : List Node) → ShaftBalance c k n gs ms → length ms ≡ length gs
as_slices c k n [] [] b = refl
as_slices c k n [] (m ∷ ms) b = absurd b
as_slices c k n (g ∷ gs) [] b = absurd b
as_slices c k n (g ∷ gs) (m ∷ ms) b = ap suc (as_slices c k m gs ms b.1)

pub inside_head : (c : Case) (F lo hi : ℕ) → Inside c F lo hi → (k : ℕ) (x : Nodes) → Balanced c k x → Carries F k x
    → Between k (head_node (lower_march c lo)) (head_node x) (head_node (upper_march c hi))
inside_head c F lo hi inside k x b carries =
    let i = length c.slices in
    let low = at_head (lower_march c lo) i (length_climb (lower_step c) (lower_tip c lo) c.slices) in
    let own = at_head x i (as_slices c k x.tip c.slices x.above b.shaft) in
    let high = at_head (upper_march c hi) i (length_climb (upper_step c) (upper_tip c hi) c.slices) in
    let there : Between k (node (lower_march c lo) i) (node x i) (node (upper_march c hi) i) = inside k x b carries i (omega arith) in
    subst (λ (n : Node). Between k n (head_node x) (head_node (upper_march c hi))) low
    (subst (λ (n : Node). Between k (node (lower_march c lo) i) n (head_node (upper_march c hi))) own
    (subst (λ (n : Node). Between k (node (lower_march c lo) i) (node x i) n) high there))
