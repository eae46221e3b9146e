-- The public calls of the crate point_fit: each contract settles its call.
use Rattle.std.specs.Prelude.{refl}
use seplogic.Ra.Ura.{Ura}
use Rattle.one_result.specs.Law.{World, Settles, nothing, plain}
use Rattle.point_fit.specs.contracts.room_of as room_of
use Rattle.point_fit.specs.contracts.in_room as in_room
use Rattle.point_fit.specs.contracts.far_wall as far-wall
use Rattle.point_fit.specs.contracts.near_wall as near-wall
use Rattle.point_fit.specs.contracts.apart as apart
use Rattle.point_fit.specs.contracts.sooner as sooner
use Rattle.point_fit.specs.contracts.ends_of as ends_of
use Rattle.point_fit.specs.contracts.past_of as past_of
use Rattle.point_fit.specs.contracts.below_ends as below-ends
use Rattle.point_fit.specs.contracts.buries as buries

module _ {M : Type 1} (𝓤 : Ura M) (w : World 𝓤) where
  pub room_of_one : (κs : _) (args : _) → Settles 𝓤 (room_of.clauses w.𝓛 w.mem w.run κs args) nothing
  room_of_one κs args = plain 𝓤 _ _ (λ _. refl) (λ _ _ _. refl)

  pub in_room_one : (κs : _) (args : _) → Settles 𝓤 (in_room.clauses w.𝓛 w.mem w.run κs args) nothing
  in_room_one κs args = plain 𝓤 _ _ (λ _. refl) (λ _ _ _. refl)

  pub far_wall_one : (κs : _) (args : _) → Settles 𝓤 (far-wall.clauses w.𝓛 w.mem w.run κs args) nothing
  far_wall_one κs args = plain 𝓤 _ _ (λ _. refl) (λ _ _ _. refl)

  pub near_wall_one : (κs : _) (args : _) → Settles 𝓤 (near-wall.clauses w.𝓛 w.mem w.run κs args) nothing
  near_wall_one κs args = plain 𝓤 _ _ (λ _. refl) (λ _ _ _. refl)

  pub apart_one : (κs : _) (args : _) → Settles 𝓤 (apart.clauses w.𝓛 w.mem w.run κs args) nothing
  apart_one κs args = plain 𝓤 _ _ (λ _. refl) (λ _ _ _. refl)

  pub sooner_one : (κs : _) (args : _) → Settles 𝓤 (sooner.clauses w.𝓛 w.mem w.run κs args) nothing
  sooner_one κs args = plain 𝓤 _ _ (λ _. refl) (λ _ _ _. refl)

  pub ends_of_one : (κs : _) (args : _) → Settles 𝓤 (ends_of.clauses w.𝓛 w.mem w.run κs args) nothing
  ends_of_one κs args = plain 𝓤 _ _ (λ _. refl) (λ _ _ _. refl)

  pub past_of_one : (κs : _) (args : _) → Settles 𝓤 (past_of.clauses w.𝓛 w.mem w.run κs args) nothing
  past_of_one κs args = plain 𝓤 _ _ (λ _. refl) (λ _ _ _. refl)

  pub below_ends_one : (κs : _) (args : _) → Settles 𝓤 (below-ends.clauses w.𝓛 w.mem w.run κs args) nothing
  below_ends_one κs args = plain 𝓤 _ _ (λ _. refl) (λ _ _ _. refl)

  pub buries_one : (κs : _) (args : _) → Settles 𝓤 (buries.clauses w.𝓛 w.mem w.run κs args) nothing
  buries_one κs args = plain 𝓤 _ _ (λ _. refl) (λ _ _ _. refl)
