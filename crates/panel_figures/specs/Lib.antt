-- Panels from both sides, computed.
pub mod PanelFigures
