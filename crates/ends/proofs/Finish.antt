-- Both ends together.
use Prim.Native.Nat.{ℕ, ◌+◌, ◌-◌, ◌*◌, ◌≤◌}
use native.Mathlib.Omega.{arith}
use mathlib.Core.Path.{◌≡◌, sym, ap, ◌∙◌}
use mathlib.Core.Option.{some}
use mathlib.Core.List.{List}
use lib.ListN.{length, get_or, take}
use lib.Seq.{length-take-le, get_or-take}
use lib.Ieee.{Float}
use Rattle.model.specs.Lists.{head, last, maybe}
use Rattle.model.specs.Sheet.{Sheet, road_at}
use Rattle.model.specs.Ends.{PathEnd, FinalPath, at_end, at_start, extend_ends, part_of, offset_fraction}
use Rattle.ends.specs.Whole.{EndHeld, FinalHeld}
use Rattle.ends.specs.declared.WalkedEnd.{WalkedEnd}
use Rattle.model.proofs.Members.{last_part}
use Rattle.ends.proofs.Grow.{head_is}

module _ (t : Sheet) (sc ec so eo : Float) (p n e : ℕ) (ids₀ ids₁ ids₂ : List ℕ) {F B : WalkedEnd} (fits : p + 4 * n ≤ length ids₀)
    (f : EndHeld (at_end t ec (record { path = take p ids₀; offset = eo })) e (p + 2 * n) ids₁ F)
    (b : EndHeld (at_start t sc (record { path = take F.count ids₁; offset = so })) e (F.count + 2 * n) ids₂ B)
    (len : length ids₂ ≡ length ids₀) where
  abbrev result : FinalPath
  result = extend_ends t sc ec (record { path = take p ids₀; start_offset = so; end_offset = eo })

  abbrev after_end : PathEnd
  after_end = at_end t ec (record { path = take p ids₀; offset = eo })

  start_is : at_start t sc (record { path = take F.count ids₁; offset = so }) ≡ at_start t sc (record { path = after_end.path; offset = so })
  start_is = ap (λ (l : List ℕ). at_start t sc (record { path = l; offset = so })) f.path

  pub path_is : take B.count ids₂ ≡ result.path
  unfolding extend_ends
  path_is = b.path ∙ ap (λ (x : PathEnd). x.path) start_is

  within : B.count ≤ length ids₂
  within = omega (arith, f.room, b.room)

  start_offset_is : B.offset ≡ result.start_offset
  unfolding extend_ends
  start_offset_is = b.offset ∙ ap (λ (x : PathEnd). x.offset) start_is

  end_offset_is : F.offset ≡ result.end_offset
  unfolding extend_ends
  end_offset_is = f.offset

  pub finished : {a z : Float}
      → a ≡ part_of B.offset (road_at t (get_or ids₂ 0 0)).length_m → z ≡ part_of F.offset (road_at t (get_or ids₂ (B.count - 1) 0)).length_m
      → FinalHeld t result e (p + 4 * n) ids₂ (record { count = B.count; start_offset = B.offset; start_fraction = a; end_offset = F.offset; end_fraction = z })
  unfolding offset_fraction maybe
  finished {a} {z} u v =
      let h : head result.path ≡ some (get_or ids₂ 0 0) = ap head (sym path_is) ∙ head_is (take B.count ids₂) (omega (arith, length-take-le B.count ids₂ within, b.some_road)) ∙ ap some (get_or-take B.count ids₂ 0 0 b.some_road) in
      let l : last result.path ≡ some (get_or ids₂ (B.count - 1) 0) = ap last (sym path_is) ∙ last_part 0 B.count ids₂ b.some_road within in
      record {
        path = path_is;
        count = sym (length-take-le B.count ids₂ within) ∙ ap length path_is;
        start_offset = start_offset_is;
        start_fraction = u ∙ rw (h, sym start_offset_is);
        end_offset = end_offset_is;
        end_fraction = v ∙ rw (l, sym end_offset_is);
        some_road = b.some_road;
        room = omega (arith, f.room, b.room);
        numbers = b.numbers;
      }
