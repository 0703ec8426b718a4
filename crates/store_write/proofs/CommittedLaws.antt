-- Writes, one after another. Assumes nothing.
use mathlib.Core.Path.{◌≡◌, refl, sym, ap, ◌∙◌}
use mathlib.Core.Bool.{true}
use mathlib.Core.List.{List, [], ◌∷◌, ◌++◌}
use Prim.Native.Nat.{ℕ}
use Rattle.store.specs.Store.{Store}
use Rattle.store.specs.Words.{is_store}
use Rattle.store_write.specs.declared.write.Write.{Write}
use Rattle.store_write.specs.Write.{written_to, FitsIn, Becomes, written_all, Committed}

written-append : (ws vs : List Write) (words : List ℕ) → written_all (ws ++ vs) words ≡ written_all vs (written_all ws words)
unfolding written_all
written-append [] vs words = refl
written-append (w ∷ ws) vs words = written-append ws vs (written_to w words)

-- nothing was written
pub committed-none : (words : List ℕ) → is_store words ≡ true → Committed words words
unfolding written_all
committed-none words h = record { writes = []; words = refl; kept = h }

pub committed-one : {before after : List ℕ} {w : Write} {σ : Store} → FitsIn w before → Becomes after (written_to w before) σ → Committed before after
unfolding written_all
committed-one {before} {after} {w} {σ} f b = record { writes = w ∷ []; words = b.words; kept = b.kept }

pub committed-then : {before between after : List ℕ} → Committed before between → Committed between after → Committed before after
committed-then {before} {between} {after} a b = record {
  writes = a.writes ++ b.writes;
  words = b.words ∙ ap (written_all b.writes) a.words ∙ sym (written-append a.writes b.writes before);
  kept = b.kept;
}
