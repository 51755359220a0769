-- What the inner calls of the bake ask and report, and how a walk passes over inactive voxels.
pub mod Reports
pub mod Next
