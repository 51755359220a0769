-- Each case is the definition's.
use mathlib.Core.Path.{refl}
use Rattle.contents.specs.Contents.{body_fits}
use Rattle.contents.proofs.inner.body_fits.Goals as goal

pub returns-in-Light : goal.returns-in-Light
unfolding body_fits
returns-in-Light c = rw c.in-Light.is refl

pub returns-in-Coefficients : goal.returns-in-Coefficients
unfolding body_fits
returns-in-Coefficients c = rw c.in-Coefficients.is refl

pub returns-in-Active : goal.returns-in-Active
unfolding body_fits
returns-in-Active c = rw c.in-Active.is refl

pub returns-in-Occupied : goal.returns-in-Occupied
unfolding body_fits
returns-in-Occupied c = rw c.in-Occupied.is refl

pub returns-in-Corners : goal.returns-in-Corners
unfolding body_fits
returns-in-Corners c = rw c.in-Corners.is refl

pub returns-in-Foreign : goal.returns-in-Foreign
unfolding body_fits
returns-in-Foreign c = rw c.in-Foreign.is refl

pub returns-in-Refused : goal.returns-in-Refused
unfolding body_fits
returns-in-Refused c = rw c.in-Refused.is refl
