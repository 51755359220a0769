-- Which triangles count, by their kind and the side that is met; and what that means.
pub mod Panels
pub mod PanelLaws
