-- A verdict in front of another.
use Rattle.std.proofs.Common.{◌≡◌, ℕ, Ok, Err, refl}
use Rattle.model.specs.Table.{Verdict, ◌then◌}

pub ok_then : (v : Verdict) → (Ok tt then v) ≡ v
unfolding ◌then◌
ok_then v = refl

pub err_then : (a : ℕ) (v : Verdict) → (Err a then v) ≡ Err a
unfolding ◌then◌
err_then a v = refl
