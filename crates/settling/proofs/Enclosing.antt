-- The settlement that is defined encloses every balanced column that carries the load.
use Rattle.std.proofs.Common.{◌≡◌, ℕ, ◌*◌, ◌≤◌, sym, subst, arith}
use Rattle.calls.specs.declared.Bracket.{Bracket}
use Rattle.calls.specs.declared.Settlement.{Settlement}
use Rattle.column.specs.declared.Node.{Node}
use Rattle.column.specs.Case.{Case, Sound}
use Rattle.column.specs.Bracket.{Between, Bracketed}
use Rattle.column.proofs.Bracketed.{bracketed}
use Rattle.column.proofs.Heads.{inside_head}
use Rattle.settling.specs.Settles.{Settles, MovedWithin, Encloses}

moved : (k : ℕ) (b : Bracket) (low n high : Node) → b.lower ≡ low.displacement → b.upper ≡ high.displacement → Between k low n high → MovedWithin k b n
moved k b low n high e f h = record {
  least = subst (λ (d : ℕ). k * d ≤ n.displacement) (sym e) h.displacement_least;
  most = subst (λ (d : ℕ). n.displacement ≤ k * d) (sym f) h.displacement_most;
}

pub encloses : (c : Case) → Sound c → (T F : ℕ) → 1 ≤ F → (x : Settlement) → Settles c T F x → Encloses c F x
encloses c ok T F some x s =
    let b : Bracketed c F x.tip.lower x.tip.upper = bracketed c ok T F x.tip.lower x.tip.upper some s.lower_tip s.upper_tip in
    record {
      tip_inside = λ k y balanced carries. let at = b.inside k y balanced carries 0 (omega arith) in record { least = at.displacement_least; most = at.displacement_most };
      head_inside = λ k y balanced carries. moved k x.head _ _ _ s.lower_head s.upper_head (inside_head c F x.tip.lower x.tip.upper b.inside k y balanced carries);
      bracketed = b;
    }
