-- What the two scans mean.
pub mod BestLaws
pub mod NearestLaws
pub mod HitOrder
pub mod TransmittanceLaws
pub mod Narrowed
pub mod BaseScans
pub mod PanelScans
pub mod SolidScans
