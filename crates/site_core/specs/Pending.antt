-- For the law `pending_stays`: what a call leaves as it was of what is pending.
use Rattle.std.specs.Prelude.{◌≡◌, ℕ, List}
use Rattle.site_core.specs.Log.{Act, firm, LeavesImage}

-- each image that a stop might leave it still may, and a write may still be torn from the same size on
pub record PendingStays (old new : List Act) : Type 0 where
  pub image : (image : List ℕ) → LeavesImage old image → LeavesImage new image
  pub firm_size : firm new ≡ firm old
